-- Where nothing is left to settle in a file's options, nothing of them is copied.
use Rattle.std.proofs.Common.{◌≡◌, ◌-◌, ℕ, List, [], ◌∷◌, map, Option, Some, None, ap, refl, ◌∙◌}
use Rattle.std.specs.List.{AllByRecursion}
use Rattle.std.specs.Option.{option_map}
use Rattle.std.specs.Prelude.{codes}
use Rattle.descriptor_records.specs.Content.{EnumContent, FieldContent, FileContent, MessageContent, message, MessageContents, more_messages, no_messages, messages_of, OptionContent, OptionsContent, file_view}
use Rattle.descriptor_records.specs.declared.file.FileDescriptorProto.{FileDescriptorProto}
use Rattle.option_parts.specs.TypedOptions.{typed_alias, typed_enum, typed_field, typed_file, typed_message, typed_messages, typed_packed, TypedFiles, written_or, written_truth}
use Rattle.option_parts.specs.declared.option_scope.OptionScope.{OptionScope}
use Rattle.option_parts.specs.declared.option_scope.OptionScope.TheVariants as scopes
use Rattle.plain_records.specs.PlainRecords.{ArePlainFiles, ArePlainMessages, ArePlainOptions, IsInside, IsPlainEnum, IsPlainField, IsPlainFile, IsPlainMessage}
use Rattle.plain_records.specs.SaidOptions.{IsSettled}

-- options of which nothing is left to settle, whatever they are of
abbrev Done : OptionScope → OptionsContent → Type 0
Done scope o = IsSettled o

packed_stays : (o : OptionsContent) → IsSettled o → typed_packed o ≡ o
packed_stays o none = ap (λ (os : List OptionContent). record o { packed = written_or (written_truth (codes "packed") os) o.packed }) none

alias_stays : (o : OptionsContent) → IsSettled o → typed_alias o ≡ o
alias_stays o none = ap (λ (os : List OptionContent). record o { allow_alias = written_or (written_truth (codes "allow_alias") os) o.allow_alias }) none

options_stay : (scope : OptionScope) (change : OptionsContent → OptionsContent) → ((o : OptionsContent) → IsSettled o → change o ≡ o) → (levels : ℕ) (x : Option OptionsContent)
    → ArePlainOptions Done scope levels x → option_map change x ≡ x
options_stay scope change stays levels None h = refl
options_stay scope change stays levels (Some o) h = ap Some (stays o h.1)

all_stay : {A : Type 0} (P : ℕ → A → Type 0) (change : A → A) (levels : ℕ) → ((l : ℕ) (x : A) → P l x → change x ≡ x) → (xs : List A) → AllByRecursion (IsInside P levels) xs
    → map change xs ≡ xs
all_stay P change levels stays [] h = refl
all_stay P change levels stays (x ∷ xs) h = λ i. stays (levels - 1) x h.0.1 i ∷ all_stay P change levels stays xs h.1 i

field_stays : (levels : ℕ) (f : FieldContent) → IsPlainField Done levels f → typed_field f ≡ f
field_stays levels f h = ap (λ o. record f { options = o }) (options_stay scopes.Field typed_packed packed_stays levels f.options h.options)

enum_stays : (levels : ℕ) (e : EnumContent) → IsPlainEnum Done levels e → typed_enum e ≡ e
enum_stays levels e h = ap (λ o. record e { options = o }) (options_stay scopes.Enum typed_alias alias_stays levels e.options h.options)

mutual
  message_stays : (m : MessageContent) (levels : ℕ) → IsPlainMessage Done levels m → typed_message m ≡ m
  message_stays (message name fields extensions nested enums ranges oneofs options reserved names) levels h =
      let l = levels - 1 in
      let fs = all_stay (IsPlainField Done) typed_field l field_stays fields h.1.fields_are in
      let xs = all_stay (IsPlainField Done) typed_field l field_stays extensions h.1.extensions_are in
      let ns = messages_stay nested l h.2 in
      let es = all_stay (IsPlainEnum Done) typed_enum l enum_stays enums h.1.enums_are in
      λ i. message name (fs i) (xs i) (ns i) (es i) ranges oneofs options reserved names

  messages_stay : (ms : MessageContents) (levels : ℕ) → ArePlainMessages Done levels ms → typed_messages ms ≡ ms
  messages_stay no_messages levels h = refl
  messages_stay (more_messages m ms) levels h = λ i. more_messages (message_stays m levels h.0 i) (messages_stay ms levels h.1 i)

types_stay : (levels : ℕ) (ms : List MessageContent) → ArePlainMessages Done levels (messages_of ms) → map typed_message ms ≡ ms
types_stay levels [] h = refl
types_stay levels (m ∷ ms) h = λ i. message_stays m levels h.0 i ∷ types_stay levels ms h.1 i

file_stays : (f : FileContent) → IsPlainFile Done 99 f → typed_file f ≡ f
file_stays f h =
    let ms = types_stay 99 f.message_type h.message_type in
    let es = all_stay (IsPlainEnum Done) typed_enum 99 enum_stays f.enum_type h.enum_type in
    let xs = all_stay (IsPlainField Done) typed_field 99 field_stays f.extension h.extension in
    λ i. record f { message_type = ms i; enum_type = es i; extension = xs i }

files_stay : (fs : List FileContent) → ArePlainFiles Done fs → map typed_file fs ≡ fs
files_stay [] h = refl
files_stay (f ∷ fs) h = λ i. file_stays f h.0 i ∷ files_stay fs h.1 i

pub typed_again : (files typed : List FileDescriptorProto) → ArePlainFiles Done (map file_view files) → TypedFiles files typed → map file_view typed ≡ map file_view files
typed_again files typed done same = same ∙ files_stay (map file_view files) done
