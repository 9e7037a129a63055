-- Records stay plain where the options that linking reads are copied from what a source wrote, and
-- linking gets the options of sources as they are.
use Rattle.std.proofs.Common.{◌≡◌, ◌⊎◌, inr, ◌-◌, ℕ, List, [], ◌∷◌, map, Option, Some, None, refl, ap, sym, subst, ◌∙◌, inl, Bool}
use Rattle.std.specs.List.{AllByRecursion}
use Rattle.std.specs.Prelude.{codes}
use Rattle.std.specs.Option.{option_map}
use Rattle.descriptor_records.specs.Content.{EnumContent, FieldContent, FileContent, MessageContent, message, MessageContents, more_messages, no_messages, messages_of, OptionContent, OptionsContent, file_view, EnumValueContent, OneofContent, MethodContent, ServiceContent, ExtensionRangeContent}
use Rattle.descriptor_records.specs.declared.file.FileDescriptorProto.{FileDescriptorProto}
use Rattle.option_parts.specs.TypedOptions.{typed_packed, typed_alias, typed_field, typed_enum, typed_message, typed_messages, typed_file, TypedFiles, written_or, written_truth}
use Rattle.option_parts.proofs.Copying.{typed_all}
use Rattle.plain_records.specs.PlainRecords.{IsInside, ArePlainOptions, IsPlainField, IsPlainEnum, IsPlainMessage, ArePlainMessages, IsPlainFile, ArePlainFiles, IsPlainEnumValue, IsPlainService, IsPlainMethod, IsPlainOneof, IsPlainExtensionRange}
use Rattle.plain_records.specs.SourceOptions.{AreAsRead, AreAsWritten, AreGiven, AreOfSource, HaveSmallNumbers, as_written}
use Rattle.reflect_pool.proofs.Grown.{all_through}
use Rattle.plain_records.specs.SaidOptions.{SaysItsBytes, IsUnsettled, SaysOrWaits}
use Rattle.option_parts.specs.declared.option_scope.OptionScope.{OptionScope}
use Rattle.option_parts.specs.declared.option_scope.OptionScope.TheVariants as scopes

-- what holds of each item holds of each that is made of it
all_mapped : {A B : Type 0} (P : A → Type 0) (Q : B → Type 0) (f : A → B) (xs : List A)
    → ((x : A) → P x → Q (f x)) → AllByRecursion P xs → AllByRecursion Q (map f xs)
all_mapped P Q f [] each h = tt
all_mapped P Q f (x ∷ xs) each h = (each x h.0, all_mapped P Q f xs each h.1)

-- options of a scope behind the copying
abbrev pub copied : OptionScope → OptionsContent → OptionsContent
copied scopes.Field o = typed_packed o
copied scopes.Enum o = typed_alias o
copied scope o = o

-- what is said of options before it, and behind it
module _ (P Q : OptionScope → OptionsContent → Type 0)
    (gives : (scope : OptionScope) (o : OptionsContent) → P scope o → Q scope (copied scope o))
  where
    -- where they are copied, and where nothing is
    options_plain : (scope : OptionScope) (change : OptionsContent → OptionsContent) (levels : ℕ)
        (o : Option OptionsContent)
        → ((c : OptionsContent) → P scope c → Q scope (change c))
        → ArePlainOptions P scope levels o
        → ArePlainOptions Q scope levels (option_map change o)
    options_plain scope change levels None to h = tt
    options_plain scope change levels (Some o) to h = (h.0, to o h.1)

    options_stay : (scope : OptionScope) (levels : ℕ) (o : Option OptionsContent)
        → ((c : OptionsContent) → P scope c → Q scope c)
        → ArePlainOptions P scope levels o → ArePlainOptions Q scope levels o
    options_stay scope levels None to h = tt
    options_stay scope levels (Some o) to h = (h.0, to o h.1)

    each_stays : {A : Type 0} (X Y : ℕ → A → Type 0) (levels : ℕ)
        → ((l : ℕ) (x : A) → X l x → Y l x) → (xs : List A)
        → AllByRecursion (IsInside X levels) xs → AllByRecursion (IsInside Y levels) xs
    each_stays X Y levels to xs =
        all_through (IsInside X levels) (IsInside Y levels) xs (λ x h. (h.0, to (levels - 1) x h.1))

    field_plain : (levels : ℕ) (f : FieldContent) → IsPlainField P levels f
        → IsPlainField Q levels (typed_field f)
    field_plain levels f h = record {
      number = h.number;
      label = h.label;
      field_type = h.field_type;
      options = options_plain scopes.Field typed_packed levels f.options (gives scopes.Field)
          h.options;
      oneof_index = h.oneof_index;
    }

    value_stays : (levels : ℕ) (v : EnumValueContent) → IsPlainEnumValue P levels v
        → IsPlainEnumValue Q levels v
    value_stays levels v h = record {
      number = h.number;
      options = options_stay scopes.EnumValue levels v.options (gives scopes.EnumValue) h.options;
    }

    enum_plain : (levels : ℕ) (e : EnumContent) → IsPlainEnum P levels e
        → IsPlainEnum Q levels (typed_enum e)
    enum_plain levels e h = record {
      value = each_stays (IsPlainEnumValue P) (IsPlainEnumValue Q) levels value_stays e.value
          h.value;
      options = options_plain scopes.Enum typed_alias levels e.options (gives scopes.Enum)
          h.options;
      reserved_range = h.reserved_range;
    }

    oneof_stays : (levels : ℕ) (o : OneofContent) → IsPlainOneof P levels o
        → IsPlainOneof Q levels o
    oneof_stays levels o h = options_stay scopes.Oneof levels o.options (gives scopes.Oneof) h

    range_stays : (levels : ℕ) (r : ExtensionRangeContent) → IsPlainExtensionRange P levels r
        → IsPlainExtensionRange Q levels r
    range_stays levels r h = record {
      start = h.start;
      end = h.end;
      options = options_stay scopes.ExtensionRange levels r.options (gives scopes.ExtensionRange)
          h.options;
    }

    method_stays : (levels : ℕ) (m : MethodContent) → IsPlainMethod P levels m
        → IsPlainMethod Q levels m
    method_stays levels m h = options_stay scopes.Method levels m.options (gives scopes.Method) h

    service_stays : (levels : ℕ) (s : ServiceContent) → IsPlainService P levels s
        → IsPlainService Q levels s
    service_stays levels s h = record {
      method = each_stays (IsPlainMethod P) (IsPlainMethod Q) levels method_stays s.method
          h.method;
      options = options_stay scopes.Service levels s.options (gives scopes.Service) h.options;
    }

    fields_plain : (levels : ℕ) (fs : List FieldContent)
        → AllByRecursion (IsInside (IsPlainField P) levels) fs
        → AllByRecursion (IsInside (IsPlainField Q) levels) (map typed_field fs)
    fields_plain levels fs =
        all_mapped (IsInside (IsPlainField P) levels) (IsInside (IsPlainField Q) levels)
        typed_field fs (λ f h. (h.0, field_plain (levels - 1) f h.1))

    enums_plain : (levels : ℕ) (es : List EnumContent)
        → AllByRecursion (IsInside (IsPlainEnum P) levels) es
        → AllByRecursion (IsInside (IsPlainEnum Q) levels) (map typed_enum es)
    enums_plain levels es =
        all_mapped (IsInside (IsPlainEnum P) levels) (IsInside (IsPlainEnum Q) levels)
        typed_enum es (λ e h. (h.0, enum_plain (levels - 1) e h.1))

    mutual
      message_plain : (m : MessageContent) (levels : ℕ) → IsPlainMessage P levels m
          → IsPlainMessage Q levels (typed_message m)
      message_plain
          (message name fields extensions nested enums ranges oneofs options reserved names) levels
          h =
          let l = levels - 1 in (
            h.0,
            record {
              fields_are = fields_plain l fields h.1.fields_are;
              extensions_are = fields_plain l extensions h.1.extensions_are;
              enums_are = enums_plain l enums h.1.enums_are;
              ranges_are = each_stays (IsPlainExtensionRange P) (IsPlainExtensionRange Q) l
                  range_stays ranges h.1.ranges_are;
              oneofs_are = each_stays (IsPlainOneof P) (IsPlainOneof Q) l oneof_stays oneofs
                  h.1.oneofs_are;
              options_are = options_stay scopes.Message l options (gives scopes.Message)
                  h.1.options_are;
              reserved_are = h.1.reserved_are;
            },
            messages_plain nested l h.2,
          )

      messages_plain : (ms : MessageContents) (levels : ℕ) → ArePlainMessages P levels ms
          → ArePlainMessages Q levels (typed_messages ms)
      messages_plain no_messages levels h = tt
      messages_plain (more_messages m ms) levels h =
          (message_plain m levels h.0, messages_plain ms levels h.1)

    file_plain : (levels : ℕ) (f : FileContent) → IsPlainFile P levels f
        → IsPlainFile Q levels (typed_file f)
    file_plain levels f h = record {
      message_type = subst (ArePlainMessages Q levels) (sym (typed_all f.message_type))
          (messages_plain (messages_of f.message_type) levels h.message_type);
      enum_type = enums_plain levels f.enum_type h.enum_type;
      service = each_stays (IsPlainService P) (IsPlainService Q) levels service_stays f.service
          h.service;
      extension = fields_plain levels f.extension h.extension;
      options = options_stay scopes.File levels f.options (gives scopes.File) h.options;
      source_code_info = h.source_code_info;
      public_dependency = h.public_dependency;
      weak_dependency = h.weak_dependency;
    }

    pub typed_says : (files typed : List FileDescriptorProto)
        → ArePlainFiles P (map file_view files) → TypedFiles files typed
        → ArePlainFiles Q (map file_view typed)
    typed_says files typed plain same = subst (ArePlainFiles Q) (sym same)
        (all_mapped (IsPlainFile P 99) (IsPlainFile Q 99) typed_file (map file_view files)
        (file_plain 99) plain)

-- what is said of options of a scope is so of those in another form
abbrev KeepsSaid : (OptionScope → OptionsContent → Type 0) → OptionScope
    → (OptionsContent → OptionsContent) → Type 0
KeepsSaid Says scope change = (o : OptionsContent) → Says scope o → Says scope (change o)

-- it is said of options, or something in them is left to settle
abbrev OrWaits : (OptionScope → OptionsContent → Type 0) → OptionScope → OptionsContent → Type 0
OrWaits Says scope o = Says scope o ⊎ IsUnsettled o

-- where a source wrote nothing, nothing is copied; where it wrote something, that is left to settle
module _ (Says : OptionScope → OptionsContent → Type 0) (scope : OptionScope) where
  packed_waits : KeepsSaid (OrWaits Says) scope typed_packed
  packed_waits o h = by o.uninterpreted_option refl where
    by : (us : List OptionContent) → o.uninterpreted_option ≡ us
        → OrWaits Says scope (typed_packed o)
    by [] none =
        let as_written = λ (us : List OptionContent). record o {
          packed = written_or (written_truth (codes "packed") us) o.packed;
        } in
        subst (OrWaits Says scope) (sym (ap as_written none)) h
    by (u ∷ us) some = inr (λ none. absurd (cc (sym some ∙ none)))

  alias_waits : KeepsSaid (OrWaits Says) scope typed_alias
  alias_waits o h = by o.uninterpreted_option refl where
    by : (us : List OptionContent) → o.uninterpreted_option ≡ us
        → OrWaits Says scope (typed_alias o)
    by [] none =
        let as_written = λ (us : List OptionContent). record o {
          allow_alias = written_or (written_truth (codes "allow_alias") us) o.allow_alias;
        } in
        subst (OrWaits Says scope) (sym (ap as_written none)) h
    by (u ∷ us) some = inr (λ none. absurd (cc (sym some ∙ none)))

waits : (scope : OptionScope) (o : OptionsContent) → SaysOrWaits scope o
    → SaysOrWaits scope (copied scope o)
waits scopes.Field o h = packed_waits SaysItsBytes scopes.Field o h
waits scopes.Enum o h = alias_waits SaysItsBytes scopes.Enum o h
waits scope o h = h

pub typed_plain : (files typed : List FileDescriptorProto)
    → ArePlainFiles SaysOrWaits (map file_view files) → TypedFiles files typed
    → ArePlainFiles SaysOrWaits (map file_view typed)
typed_plain = typed_says SaysOrWaits SaysOrWaits waits

-- ---- options of sources
-- linking gets them as they were written, with what it reads of them where it reads it
or_nothing : (said : Option Bool) → written_or said None ≡ said
or_nothing None = refl
or_nothing (Some b) = refl

as_read_so : (scope : OptionScope) (o : OptionsContent) → AreAsWritten scope o
    → AreAsRead scope (copied scope o)
as_read_so scopes.Field o h =
    let os = o.uninterpreted_option in
    let packed = or_nothing (written_truth (codes "packed") os) in
    elim h [
      | inl is ↦ inl (ap typed_packed is ∙ (λ i. record (as_written os) { packed = packed i }))
      | inr entries ↦ absurd (cc entries.0)
    ]
as_read_so scopes.Enum o h =
    let os = o.uninterpreted_option in
    let alias = or_nothing (written_truth (codes "allow_alias") os) in
    elim h [
      | inl is ↦ inl (ap typed_alias is ∙ (λ i. record (as_written os) { allow_alias = alias i }))
      | inr entries ↦ absurd (cc entries.0)
    ]
as_read_so scope o h = h

-- of what they wrote nothing is changed
numbers_stay : (scope : OptionScope) (o : OptionsContent) → HaveSmallNumbers o
    → HaveSmallNumbers (copied scope o)
numbers_stay scopes.Field o h = h
numbers_stay scope o h = h

pub typed_given : (files typed : List FileDescriptorProto)
    → ArePlainFiles AreOfSource (map file_view files) → TypedFiles files typed
    → ArePlainFiles AreGiven (map file_view typed)
typed_given = typed_says AreOfSource AreGiven
    (λ scope o h. (as_read_so scope o h.0, numbers_stay scope o h.1))
