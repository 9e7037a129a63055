-- What two things that are said of options give together, of all options of a file.
use Rattle.std.proofs.Common.{◌-◌, ℕ, List, [], ◌∷◌, Option, Some, None}
use Rattle.std.specs.List.{AllByRecursion}
use Rattle.descriptor_records.specs.Content.{EnumContent, EnumValueContent, ExtensionRangeContent, FieldContent, FileContent, MessageContent, message, MessageContents, more_messages, no_messages, messages_of, MethodContent, OneofContent, OptionsContent, ServiceContent}
use Rattle.option_parts.specs.declared.option_scope.OptionScope.{OptionScope}
use Rattle.option_parts.specs.declared.option_scope.OptionScope.TheVariants as scopes
use Rattle.plain_records.specs.PlainRecords.{ArePlainFiles, ArePlainMessages, ArePlainOptions, IsInside, IsPlainEnum, IsPlainEnumValue, IsPlainExtensionRange, IsPlainField, IsPlainFile, IsPlainMessage, IsPlainMethod, IsPlainOneof, IsPlainService}

each_both : {A : Type 0} (P Q R : ℕ → A → Type 0) (levels : ℕ) → ((l : ℕ) (x : A) → P l x → Q l x → R l x) → (xs : List A)
    → AllByRecursion (IsInside P levels) xs → AllByRecursion (IsInside Q levels) xs → AllByRecursion (IsInside R levels) xs
each_both P Q R levels both [] p q = tt
each_both P Q R levels both (x ∷ xs) p q = ((p.0.0, both (levels - 1) x p.0.1 q.0.1), each_both P Q R levels both xs p.1 q.1)

module _ (P Q R : OptionScope → OptionsContent → Type 0) (give : (scope : OptionScope) (o : OptionsContent) → P scope o → Q scope o → R scope o) where
  options_both : (scope : OptionScope) (levels : ℕ) (o : Option OptionsContent) → ArePlainOptions P scope levels o → ArePlainOptions Q scope levels o → ArePlainOptions R scope levels o
  options_both scope levels None p q = tt
  options_both scope levels (Some o) p q = (p.0, give scope o p.1 q.1)

  field_both : (levels : ℕ) (f : FieldContent) → IsPlainField P levels f → IsPlainField Q levels f → IsPlainField R levels f
  field_both levels f p q = record {
    number = p.number;
    label = p.label;
    field_type = p.field_type;
    options = options_both scopes.Field levels f.options p.options q.options;
    oneof_index = p.oneof_index;
  }

  oneof_both : (levels : ℕ) (o : OneofContent) → IsPlainOneof P levels o → IsPlainOneof Q levels o → IsPlainOneof R levels o
  oneof_both levels o p q = options_both scopes.Oneof levels o.options p q

  value_both : (levels : ℕ) (v : EnumValueContent) → IsPlainEnumValue P levels v → IsPlainEnumValue Q levels v → IsPlainEnumValue R levels v
  value_both levels v p q = record { number = p.number; options = options_both scopes.EnumValue levels v.options p.options q.options }

  enum_both : (levels : ℕ) (e : EnumContent) → IsPlainEnum P levels e → IsPlainEnum Q levels e → IsPlainEnum R levels e
  enum_both levels e p q = record {
    value = each_both (IsPlainEnumValue P) (IsPlainEnumValue Q) (IsPlainEnumValue R) levels value_both e.value p.value q.value;
    options = options_both scopes.Enum levels e.options p.options q.options;
    reserved_range = p.reserved_range;
  }

  method_both : (levels : ℕ) (m : MethodContent) → IsPlainMethod P levels m → IsPlainMethod Q levels m → IsPlainMethod R levels m
  method_both levels m p q = options_both scopes.Method levels m.options p q

  service_both : (levels : ℕ) (s : ServiceContent) → IsPlainService P levels s → IsPlainService Q levels s → IsPlainService R levels s
  service_both levels s p q = record {
    method = each_both (IsPlainMethod P) (IsPlainMethod Q) (IsPlainMethod R) levels method_both s.method p.method q.method;
    options = options_both scopes.Service levels s.options p.options q.options;
  }

  range_both : (levels : ℕ) (r : ExtensionRangeContent) → IsPlainExtensionRange P levels r → IsPlainExtensionRange Q levels r → IsPlainExtensionRange R levels r
  range_both levels r p q = record { start = p.start; end = p.end; options = options_both scopes.ExtensionRange levels r.options p.options q.options }

  mutual
    message_both : (levels : ℕ) (m : MessageContent) → IsPlainMessage P levels m → IsPlainMessage Q levels m → IsPlainMessage R levels m
    message_both levels (message name fields extensions nested enums ranges oneofs options reserved names) p q =
        let l = levels - 1 in (
          p.0,
          record {
            fields_are = each_both (IsPlainField P) (IsPlainField Q) (IsPlainField R) l field_both fields p.1.fields_are q.1.fields_are;
            extensions_are = each_both (IsPlainField P) (IsPlainField Q) (IsPlainField R) l field_both extensions p.1.extensions_are q.1.extensions_are;
            enums_are = each_both (IsPlainEnum P) (IsPlainEnum Q) (IsPlainEnum R) l enum_both enums p.1.enums_are q.1.enums_are;
            ranges_are = each_both (IsPlainExtensionRange P) (IsPlainExtensionRange Q) (IsPlainExtensionRange R) l range_both ranges p.1.ranges_are q.1.ranges_are;
            oneofs_are = each_both (IsPlainOneof P) (IsPlainOneof Q) (IsPlainOneof R) l oneof_both oneofs p.1.oneofs_are q.1.oneofs_are;
            options_are = options_both scopes.Message l options p.1.options_are q.1.options_are;
            reserved_are = p.1.reserved_are;
          },
          messages_both l nested p.2 q.2,
        )

    messages_both : (levels : ℕ) (ms : MessageContents) → ArePlainMessages P levels ms → ArePlainMessages Q levels ms → ArePlainMessages R levels ms
    messages_both levels no_messages p q = tt
    messages_both levels (more_messages m ms) p q = (message_both levels m p.0 q.0, messages_both levels ms p.1 q.1)

  pub file_both : (levels : ℕ) (f : FileContent) → IsPlainFile P levels f → IsPlainFile Q levels f → IsPlainFile R levels f
  file_both levels f p q = record {
    message_type = messages_both levels (messages_of f.message_type) p.message_type q.message_type;
    enum_type = each_both (IsPlainEnum P) (IsPlainEnum Q) (IsPlainEnum R) levels enum_both f.enum_type p.enum_type q.enum_type;
    service = each_both (IsPlainService P) (IsPlainService Q) (IsPlainService R) levels service_both f.service p.service q.service;
    extension = each_both (IsPlainField P) (IsPlainField Q) (IsPlainField R) levels field_both f.extension p.extension q.extension;
    options = options_both scopes.File levels f.options p.options q.options;
    source_code_info = p.source_code_info;
    public_dependency = p.public_dependency;
    weak_dependency = p.weak_dependency;
  }

  pub files_both : (fs : List FileContent) → ArePlainFiles P fs → ArePlainFiles Q fs → ArePlainFiles R fs
  files_both [] p q = tt
  files_both (f ∷ fs) p q = (file_both 99 f p.0 q.0, files_both fs p.1 q.1)

-- of what is said of options something weaker is so
pub file_weaker : (P Q : OptionScope → OptionsContent → Type 0) → ((scope : OptionScope) (o : OptionsContent) → P scope o → Q scope o) → (levels : ℕ) (f : FileContent) → IsPlainFile P levels f → IsPlainFile Q levels f
file_weaker P Q weaker levels f p = file_both P P Q (λ scope o first second. weaker scope o first) levels f p p

pub files_weaker : (P Q : OptionScope → OptionsContent → Type 0) → ((scope : OptionScope) (o : OptionsContent) → P scope o → Q scope o) → (fs : List FileContent) → ArePlainFiles P fs → ArePlainFiles Q fs
files_weaker P Q weaker fs p = files_both P P Q (λ scope o first second. weaker scope o first) fs p p
