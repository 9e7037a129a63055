-- What options settle to, in the words of its bytes.
use Rattle.std.proofs.Common.{◌≡◌, ℕ, ℤ, List, [], ◌∷◌, map, false, Option, Some, None, IfSome, refl, sym, ap, ◌∙◌, subst, append-nil}
use Rattle.std.specs.List.{AllZip}
use Rattle.descriptor_records.specs.Content.{OptionsContent, option_view, options_view}
use Rattle.descriptor_records.specs.declared.options.Options.{Options}
use Rattle.descriptor_records.specs.declared.options.UninterpretedOption.{UninterpretedOption}
use Rattle.option_parts.specs.OptionTypes.{CanRead, HasField, IsNamedType, IsOptionType, IsTruthValue, ListsMessages, type_name, typed_option}
use Rattle.option_parts.specs.declared.option_scope.OptionScope.{OptionScope}
use Rattle.option_parts.specs.declared.option_scope.OptionScope.TheVariants as scopes
use Rattle.option_setter.specs.declared.option_setter.NameScope.{NameScope}
use Rattle.plain_records.specs.SaidOptions.{SaysItsBytes}
use Rattle.reflect_codec.specs.declared.options.OptionsOf.{OptionsOf}
use Rattle.reflect_codec.specs.Meaning.{IsOptions, IsUninterpretedOption, is_enum, is_field, is_message}
use Rattle.reflect_codec.specs.Reading.{Field, IsBool, IsLast, IsLastIf, IsRecord, fields_in, payload, values_at}
use Rattle.reflect_decode.specs.Spelled.{IsSpelled}
use Rattle.reflect_message.specs.Bytes.{message_bytes}
use Rattle.reflect_message.specs.Held.{UpdatesField, unknown_of}
use Rattle.reflect_message.specs.Known.{holds_floats, known_extension, known_field, numbered_field}
use Rattle.reflect_message.specs.Names.{DynamicMessage}
use Rattle.reflect_numbered.specs.Called.{HasNumber, UnsetsMeant}
use Rattle.reflect_options.specs.Settled.{SetsAll, Settles, settled_record, truth_said, typed_said}
use Rattle.reflect_pool.specs.Dots.{without_dot}
use Rattle.reflect_pool.specs.declared.message.MessageDescriptor.{MessageDescriptor}
use Rattle.reflect_tables.specs.Finding.{IsFirst}
use Rattle.reflect_tables.specs.Types.{FieldType}
use Rattle.reflect_wire.specs.Records.{Records, SpellsRecords}
use Rattle.reflect_wire.specs.Views.{records_of}
use Rattle.message_view.specs.Sound.{IsSound}
use Rattle.plain_records.specs.Kinds.{kind_of}
use Rattle.settled_records.proofs.Fields.{field_declared, field_known, listed_whole, no_extension, truth_whole}
use Rattle.settled_records.proofs.Kept.{PlainAt, all_kept, all_others, type_kept, unset_field}
use Rattle.settled_records.proofs.Stored.{list_unset, stored_lacks, stored_plain}
use Rattle.settled_records.proofs.Truths.{truth_read}
use Rattle.settled_records.proofs.Under.{Lacks, Writes, message_under, none_read}

module _ (d : MessageDescriptor) (sound : IsSound d.pool.now) (bytes : List ℕ) (stored set whole : DynamicMessage) (spelled : IsSpelled d bytes stored) (there : stored.descriptor ≡ d)
    (s : NameScope) (os : List UninterpretedOption) (paths : List (List ℤ)) (sets : SetsAll s os stored set paths) (unsets : UnsetsMeant (HasNumber 999) set whole)
    (lists : HasField d.pool.now d.index 999 (ListsMessages d.pool.now)) where
  set_type : set.descriptor ≡ d
  set_type = type_kept s os stored set paths sets ∙ there

  unset : UpdatesField set whole 999 None
  unset = list_unset d 999 lists.0 lists.1 lists.2 set whole set_type unsets

  whole_type : whole.descriptor ≡ d
  whole_type = unset.same_type ∙ set_type

  unknown_kept : unknown_of whole ≡ unknown_of stored
  unknown_kept = unset.unknown ∙ all_others s os stored set paths sets

  -- of a number that a field of the type has there is no other record, and no extension has it
  module _ (n : ℕ) (g : FieldType) (is : numbered_field d.pool.now d.index n ≡ Some g) (held : holds_floats d.pool.now g ≡ false) where
    whole_lacks : Lacks n (unknown_of whole)
    whole_lacks = subst (Lacks n) (sym unknown_kept) (stored_lacks d bytes stored spelled n (field_declared d n g is held))

    whole_none : known_extension whole.descriptor.pool.now whole.descriptor.index n ≡ None
    whole_none = ap (λ (m : MessageDescriptor). known_extension m.pool.now m.index n) whole_type ∙ no_extension d n g is sound

    whole_known : known_field whole.descriptor.pool.now whole.descriptor.index n ≡ Some g
    whole_known = ap (λ (m : MessageDescriptor). known_field m.pool.now m.index n) whole_type ∙ field_known d n g is held

  module _ (levels : ℕ) (ss : Records) (spells : SpellsRecords levels (message_bytes whole) ss) where
    -- no field has the number of the list
    no_list : values_at 999 (fields_in ss) ≡ []
    no_list =
        let held = listed_whole d.pool.now lists.0 lists.2 in
        let writes : Writes 999 [] (message_bytes whole) = message_under whole 999 [] unset.field.ascending (whole_none 999 lists.0 lists.1 held) (whole_lacks 999 lists.0 lists.1 held)
        (λ v gone. absurd (cc (sym unset.field.here ∙ gone))) (λ gone. refl) in
        none_read levels 999 (message_bytes whole) ss writes spells

    -- what is read under the number of a truth value is what the message says
    one_truth : (n : ℕ) (name : List ℕ) → HasField d.pool.now d.index n (IsTruthValue name) → IsLast IsBool (values_at n (fields_in ss)) (truth_said n whole)
    one_truth n name (g, is, truth) =
        let held = truth_whole d.pool.now g truth.truth in
        let plain : PlainAt n whole = unset_field n set whole 999 unset (all_kept d sound n g is truth.truth truth.presence s os stored set paths sets there
        (stored_plain d bytes stored spelled sound n g is truth.truth truth.presence)) in
        truth_read whole n g (whole_known n g is held) truth.truth truth.presence unset.field.ascending (whole_none n g is held) (whole_lacks n g is held) levels ss spells plain

-- ---- the record

no_items : (os : List UninterpretedOption) → map option_view os ≡ [] → os ≡ []
no_items [] e = refl
no_items (o ∷ os) e = absurd (cc e)

-- options without any that are left to settle
made : (kind : OptionsOf) (fs : List Field) (bytes : List ℕ) (o : Options) → o.encoded.items ≡ bytes → map option_view o.uninterpreted_option.items ≡ [] → values_at 999 fs ≡ []
    → IsLastIf (is_field kind) IsBool (values_at 2 fs) o.packed → IsLastIf (is_enum kind) IsBool (values_at 2 fs) o.allow_alias → IsLastIf (is_message kind) IsBool (values_at 7 fs) o.map_entry
    → IsOptions kind (payload bytes ∷ []) fs o
made kind fs bytes o same left none packed alias entry = record {
  encoded = (bytes ∷ [], (refl, tt), same ∙ sym (append-nil bytes));
  packed = packed;
  allow_alias = alias;
  map_entry = entry;
  uninterpreted_option =
      subst (λ xs. AllZip (IsRecord IsUninterpretedOption 100) xs o.uninterpreted_option.items) (sym none)
      (subst (AllZip (IsRecord IsUninterpretedOption 100) []) (sym (no_items o.uninterpreted_option.items left)) tt);
}

-- the options of a scope say what is read of their bytes
says : (scope : OptionScope) (whole : DynamicMessage) (fs : List Field) → IfSome (typed_option scope) (λ o. IsLast IsBool (values_at o.1 fs) (truth_said o.1 whole))
    → (bytes : List ℕ) (o : Options) → options_view o ≡ settled_record scope (typed_said scope whole) bytes → values_at 999 fs ≡ [] → IsOptions (kind_of scope) (payload bytes ∷ []) fs o
says scopes.Message whole fs truth bytes o is none =
    made (kind_of scopes.Message) fs bytes o (ap (λ (c : OptionsContent). c.encoded) is) (ap (λ (c : OptionsContent). c.uninterpreted_option) is) none (ap (λ (c : OptionsContent). c.packed) is) (ap (λ (c : OptionsContent). c.allow_alias) is)
    (subst (IsLast IsBool (values_at 7 fs)) (sym (ap (λ (c : OptionsContent). c.map_entry) is)) truth)
says scopes.Field whole fs truth bytes o is none =
    made (kind_of scopes.Field) fs bytes o (ap (λ (c : OptionsContent). c.encoded) is) (ap (λ (c : OptionsContent). c.uninterpreted_option) is) none (subst (IsLast IsBool (values_at 2 fs)) (sym (ap (λ (c : OptionsContent). c.packed) is)) truth)
    (ap (λ (c : OptionsContent). c.allow_alias) is) (ap (λ (c : OptionsContent). c.map_entry) is)
says scopes.Enum whole fs truth bytes o is none =
    made (kind_of scopes.Enum) fs bytes o (ap (λ (c : OptionsContent). c.encoded) is) (ap (λ (c : OptionsContent). c.uninterpreted_option) is) none (ap (λ (c : OptionsContent). c.packed) is)
    (subst (IsLast IsBool (values_at 2 fs)) (sym (ap (λ (c : OptionsContent). c.allow_alias) is)) truth) (ap (λ (c : OptionsContent). c.map_entry) is)
says scope whole fs truth bytes o is none =
    made (kind_of scope) fs bytes o (ap (λ (c : OptionsContent). c.encoded) is) (ap (λ (c : OptionsContent). c.uninterpreted_option) is) none (ap (λ (c : OptionsContent). c.packed) is)
    (ap (λ (c : OptionsContent). c.allow_alias) is) (ap (λ (c : OptionsContent). c.map_entry) is)

pub no_dot : (scope : OptionScope) → without_dot (type_name scope) ≡ type_name scope
no_dot scopes.File = refl
no_dot scope = refl

module _ (scope : OptionScope) (s : NameScope) (o : Options) (settled : OptionsContent) (paths : List (List ℤ)) (sound : IsSound s.pool.now) (can : CanRead s.pool.now scope) (is : Settles scope s o settled paths) where
  abbrev type : MessageDescriptor
  type = is.1.0

  abbrev whole : DynamicMessage
  whole = is.1.2

  abbrev read : Records
  read = records_of is.1.4.1.1.0

  option_type : IsOptionType type.pool.now scope type.index
  option_type =
      let named : IsNamedType s.pool.now scope type.index = subst (λ n. IsFirst (λ m. m.full_name ≡ n) s.pool.now.messages (Some type.index)) (no_dot scope) is.1.1.1 in
      subst (λ p. IsOptionType p scope type.index) (sym is.1.1.0) (can type.index named)

  type_sound : IsSound type.pool.now
  type_sound = subst IsSound (sym is.1.1.0) sound

  -- the record that has this content says what its bytes do
  pub view_says : (options : Options) → options_view options ≡ settled → SaysItsBytes scope settled
  view_says options view =
      let stored = is.1.3.0 in
      let set = is.1.3.1 in
      let spells : SpellsRecords 100 (message_bytes whole) read = is.1.4.1.1.1 in
      let bytes : settled.encoded ≡ message_bytes whole = ap (λ (c : OptionsContent). c.encoded) is.1.4.0 in
      let none = no_list type type_sound o.encoded.items stored set whole is.1.3.2.1 is.1.3.2.0 s o.uninterpreted_option.items paths is.1.3.3 is.1.3.4 option_type.uninterpreted 100 read spells in
      let truth = truths (typed_option scope) option_type.typed in
      record {
        options = options;
        is = view;
        fields = fields_in read;
        spelled = (read, subst (λ bs. SpellsRecords 100 bs read) (sym bytes) spells, refl);
        said = subst (λ bs. IsOptions (kind_of scope) (payload bs ∷ []) (fields_in read) options) (sym bytes) (says scope whole (fields_in read) truth (message_bytes whole) options (view ∙ is.1.4.0) none);
      } where
        truths : (t : Option (List ℕ × ℕ)) → IfSome t (λ t. HasField type.pool.now type.index t.1 (IsTruthValue t.0)) → IfSome t (λ t. IsLast IsBool (values_at t.1 (fields_in read)) (truth_said t.1 whole))
        truths None h = tt
        truths (Some t) h = one_truth type type_sound o.encoded.items is.1.3.0 is.1.3.1 whole is.1.3.2.1 is.1.3.2.0 s o.uninterpreted_option.items paths is.1.3.3 is.1.3.4 option_type.uninterpreted 100 read is.1.4.1.1.1 t.1 t.0 h
