-- The rules that declarations meet by themselves (protobuf.dev, "Language Guide": Assigning Field
-- Numbers, Enumerations, Reserved Fields, Maps).
use Rattle.std.specs.Prelude.{◌≡◌, ◌≤◌, ◌<◌, ◌⊎◌, ◌≤ℤ◌, ◌<ℤ◌, ℕ, ℤ, pos, List, [], ◌∷◌, sum_by, Bool, true, false, cond, Option, None, Some, codes, Contains, FitsSigned}
use Rattle.std.specs.Int.{w32}
use Rattle.std.specs.Ordering.{int_eq}
use Rattle.std.specs.List.{AllByRecursion}
use Rattle.descriptor_records.specs.Content.{Text, OptionsContent, FieldContent, EnumValueContent, EnumContent, MethodContent, ExtensionRangeContent}
use Rattle.descriptor_records.specs.declared.enums.EnumReservedRange.{EnumReservedRange}
use Rattle.descriptor_records.specs.declared.message.ReservedRange.{ReservedRange}
use Rattle.schema_view.specs.Files.{IsThere}
use Rattle.schema_view.specs.Scalars.{is_scalar, is_key_type, IsScalarDefault}
use Rattle.schema_view.specs.Declarations.{FieldFacts, Range, extension_range, reserved_range, MessageFacts, Body, of_message, of_field, of_oneof, of_enum, of_value, of_service, of_method, of_extension}

abbrev pub is_number : ℤ → Option ℤ → Bool
is_number n None = false
is_number n (Some m) = int_eq m n

-- 1 to 536,870,911, but for those that protobuf keeps for itself, 19,000 to 19,999
pub record IsFieldNumber (n : ℤ) : Type 0 where
  pub least : pos 1 ≤ℤ n
  pub most : n ≤ℤ pos 536870911
  pub kept : (n <ℤ pos 19000) ⊎ (pos 20000 ≤ℤ n)

-- the number is there, and is one of a field
abbrev pub HasFieldNumber : Option ℤ → Type 0
HasFieldNumber o = (n : ℤ) × (o ≡ Some n) × IsFieldNumber n

-- the range is given, and has the number
abbrev pub IsIn : ℤ → Range → Type 0
IsIn n r = (start end : ℤ) × (r.start ≡ Some start) × (r.end ≡ Some end) × (start ≤ℤ n) × (n <ℤ end)

-- no label is optional; 1 is optional, 2 required, 3 repeated
abbrev pub HasLabel : Option ℤ → Type 0
HasLabel o = (o ≡ None) ⊎ ((n : ℤ) × (o ≡ Some n) × (pos 1 ≤ℤ n) × (n ≤ℤ pos 3))

-- a type is given by a number of the table, by a name, or by both where the number is that of a
-- group, a message or an enum; those have a name
abbrev pub HasType : Option ℤ → Option Text → Type 0
HasType None name = IsThere name
HasType (Some n) None = is_scalar n ≡ true
HasType (Some n) (Some name) = (n ≡ pos 10) ⊎ ((n ≡ pos 11) ⊎ (n ≡ pos 14))

-- the default of a scalar type is a text of that type
abbrev pub SuitsScalar : FieldContent → Type 0
SuitsScalar f =
    (text : Text) (n : ℤ) → f.default_value ≡ Some text → f.field_type ≡ Some n → is_scalar n ≡ true
    → IsScalarDefault n text

-- what is asked of a field and of an extension
pub record IsField (f : FieldContent) : Type 0 where
  pub name : IsThere f.name
  pub number : HasFieldNumber f.number
  pub label : HasLabel f.label
  pub type : HasType f.field_type f.type_name
  pub default : SuitsScalar f

-- the oneof of the index is there
abbrev pub HasOneof : ℕ → Option ℤ → Type 0
HasOneof count o = (o ≡ None) ⊎ ((k : ℕ) × (o ≡ Some (pos k)) × (k < count))

abbrev pub HasBounds : Range → Type 0
HasBounds r = IsThere r.start × IsThere r.end

abbrev pub SaysEntry : Option OptionsContent → Type 0
SaysEntry o = (options : OptionsContent) × (o ≡ Some options) × (options.map_entry ≡ Some true)

-- a part of a map's entry: of this name and number, not required or repeated
pub record IsPart (f : FieldFacts) (text : Text) (n : ℤ) : Type 0 where
  pub name : f.name ≡ Some text
  pub number : f.number ≡ Some n
  pub label : (f.label ≡ None) ⊎ (f.label ≡ Some (pos 1))

pub record IsEntry (k v : FieldFacts) : Type 0 where
  pub key : IsPart k (codes "key") (pos 1)
  pub value : IsPart v (codes "value") (pos 2)
  pub key_type : is_key_type k.scalar ≡ true
  pub apart : (i : ℤ) → k.oneof ≡ Some i → v.oneof ≡ Some i → ⊥

-- a key and a value, in either order
abbrev pub IsEntryType : List FieldFacts → Type 0
IsEntryType (a ∷ b ∷ []) = IsEntry a b ⊎ IsEntry b a
IsEntryType _ = ⊥

pub record IsMessage (m : MessageFacts) : Type 0 where
  pub name : IsThere m.name
  pub apart : (n : ℤ) → sum_by (λ f. cond (is_number n f.number) 1 0) m.fields ≤ 1
  pub unreserved : (f : FieldFacts) (n : ℤ) (r : ReservedRange)
      → Contains m.fields f → f.number ≡ Some n → Contains m.reserved r → IsIn n (reserved_range r)
      → ⊥
  pub no_extension : (f : FieldFacts) (n : ℤ) (r : ExtensionRangeContent)
      → Contains m.fields f → f.number ≡ Some n → Contains m.extensions r
      → IsIn n (extension_range r) → ⊥
  pub oneofs : AllByRecursion (λ f. HasOneof m.oneofs f.oneof) m.fields
  pub bounds : AllByRecursion (λ r. HasBounds (extension_range r)) m.extensions
      × AllByRecursion (λ r. HasBounds (reserved_range r)) m.reserved
  pub entry : SaysEntry m.options → IsEntryType m.fields

abbrev pub AllowsAliases : Option OptionsContent → Type 0
AllowsAliases o = (options : OptionsContent) × (o ≡ Some options)
    × (options.allow_alias ≡ Some true)

-- the first value is there, in proto3 with the number 0
abbrev pub HasFirst : Bool → List EnumValueContent → Type 0
HasFirst proto3 [] = ⊥
HasFirst proto3 (v ∷ vs) = proto3 ≡ true → v.number ≡ Some (pos 0)

-- the number is there, and one of 32 bits
abbrev pub HasValueNumber : Option ℤ → Type 0
HasValueNumber o = (n : ℤ) × (o ≡ Some n) × FitsSigned w32 n

pub record IsEnum (proto3 : Bool) (e : EnumContent) : Type 0 where
  pub name : IsThere e.name
  pub first : HasFirst proto3 e.value
  pub numbers : AllByRecursion (λ (v : EnumValueContent). HasValueNumber v.number) e.value
  pub apart : AllowsAliases e.options
      ⊎ ((n : ℤ) → sum_by (λ v. cond (is_number n v.number) 1 0) e.value ≤ 1)
  pub bounds : AllByRecursion (λ (r : EnumReservedRange). IsThere r.start × IsThere r.end)
      e.reserved_range

pub record IsMethod (m : MethodContent) : Type 0 where
  pub name : IsThere m.name
  pub input : IsThere m.input_type
  pub output : IsThere m.output_type

abbrev pub IsSound : Bool → Body → Type 0
IsSound proto3 (of_message m) = IsMessage m
IsSound proto3 (of_field f) = IsField f
IsSound proto3 (of_oneof o) = IsThere o.name
IsSound proto3 (of_enum e) = IsEnum proto3 e
IsSound proto3 (of_value v) = IsThere v.name
IsSound proto3 (of_service s) = IsThere s.name
IsSound proto3 (of_method m) = IsMethod m
IsSound proto3 (of_extension x) = IsField x × IsThere x.extendee
