-- What the rules of numbers ask of a declaration: by itself, by the message that it is in, and by
-- what it refers to.
use Rattle.std.specs.Prelude.{◌≡◌, ◌≤◌, ℕ, ℤ, List, [], ◌∷◌, Bool, true, false, ◌&&◌, cond, nat_lt, sum_by, Option, None, Some, Contains, String}
use Rattle.std.specs.List.{AllByRecursion}
use Rattle.std.specs.declared.alloc.Global.{Global}
use Rattle.descriptor_records.specs.Content.{FieldContent, ExtensionRangeContent, FileContent}
use Rattle.descriptor_records.specs.declared.field.FieldDescriptorProto.{FieldDescriptorProto}
use Rattle.descriptor_records.specs.declared.message.ReservedRange.{ReservedRange}
use Rattle.reflect_scope.specs.declared.definition.DefinitionKind.{DefinitionKind}
use Rattle.reflect_walk.specs.MapEntries.{says_entry}
use Rattle.reflect_declarations.specs.Declarations as walk
use Rattle.reflect_tables.specs.Ranges.{Range, IsRangeOf}
use Rattle.reflect_references.specs.Meanings.{meaning, behind}
use Rattle.reflect_rules.specs.TypesSay.{TypesSay}
use Rattle.reflect_rules.specs.Rules.{Values, IsDefaultOf, number_of, message_of, is_one_map}
use Rattle.reflect_rules.specs.Walks.{Facts, Place, place_behind}
use Rattle.reflect_index.specs.OfDeclarations.{AreDeclared}
use Rattle.schema_view.specs.Files.{is_proto3}
use Rattle.schema_view.specs.Declarations.{Declaration, declarations, FieldFacts, extension_range, reserved_range, MessageFacts, Body, of_message, of_field, of_oneof, of_enum, of_value, of_service, of_method, of_extension}
use Rattle.schema_view.specs.Rules.{is_number, IsIn, HasFieldNumber, HasOneof, HasType, SuitsScalar, SaysEntry, IsEntryType, HasFirst}
use Rattle.linked_view.specs.Enums.{IsNumbered}

-- no two fields have one number, and what says that it is the type of a map's entries has the shape
pub record IsRuledMessage (m : MessageFacts) : Type 0 where
  pub apart : (n : ℤ) → sum_by (λ f. cond (is_number n f.number) 1 0) m.fields ≤ 1
  pub entry : SaysEntry m.options → IsEntryType m.fields

pub record IsRuledField (f : FieldContent) : Type 0 where
  pub number : HasFieldNumber f.number
  pub default : SuitsScalar f

-- by itself
abbrev pub IsRuled : Bool → Body → Type 0
IsRuled proto3 (of_message m) = IsRuledMessage m
IsRuled proto3 (of_field f) = IsRuledField f
IsRuled proto3 (of_oneof o) = Unit {0}
IsRuled proto3 (of_enum e) = HasFirst proto3 e.value × IsNumbered e
IsRuled proto3 (of_value v) = Unit {0}
IsRuled proto3 (of_service s) = Unit {0}
IsRuled proto3 (of_method m) = Unit {0}
IsRuled proto3 (of_extension x) = IsRuledField x

-- a field by its message, which has the index and so many oneofs: its number is in no reserved
-- range and in none for extensions, and its oneof is there
pub record IsPlacedField (types : TypesSay) (oneofs message : ℕ)
    (f : FieldDescriptorProto) : Type 0 where
  pub unreserved : IsRangeOf (types.reserved message) (number_of f) None
  pub no_extension : IsRangeOf (types.extensions message) (number_of f) None
  pub oneof : HasOneof oneofs f.oneof_index

-- what is meant is no entries' type of an older file
abbrev pub IsNewer : TypesSay → ℕ → Option ℕ → Type 0
IsNewer types first None = Unit {0}
IsNewer types first (Some i) = (nat_lt i first && types.is_entry i) ≡ false

-- a field by what its type's name means
pub record IsMetField (g : Facts) (values : Values) (m : Option DefinitionKind)
    (f : FieldDescriptorProto) : Type 0 where
  pub newer : IsNewer g.types g.first (message_of m)
  pub default : (name : String Global) → f.type_name ≡ Some name
      → IsDefaultOf values f.field_type m f.default_value true

-- the number is one that a message keeps for extensions
abbrev pub IsExtensionNumber : TypesSay → ℤ → Option ℕ → Type 0
IsExtensionNumber types n None = Unit {0}
IsExtensionNumber types n (Some i) =
    IsRangeOf (types.reserved i) n None × (r : Range) × IsRangeOf (types.extensions i) n (Some r)

-- a declaration by what it refers to, and by who refers to it
abbrev pub IsMet : Facts → Values → Place → walk.Declaration → Type 0
IsMet g values p d = elim d.body [
  | walk.of_file f ↦ Unit {0}
  | walk.of_message m ↦ (says_entry m.options ≡ true → is_one_map (g.uses d.index) ≡ true)
  | walk.of_field f ↦ IsMetField g values (meaning f.type_name p.rest) f
  | walk.of_oneof o ↦ Unit {0}
  | walk.of_enum e ↦ Unit {0}
  | walk.of_enum_value v ↦ Unit {0}
  | walk.of_service s ↦ Unit {0}
  | walk.of_method m ↦ Unit {0}
  | walk.of_extension x ↦ IsExtensionNumber g.types (number_of x)
      (message_of (meaning x.extendee p.rest))
      × IsMetField g values (meaning x.type_name (behind x.extendee p.rest)) x
]

-- a message's fields by the message: no number in a reserved range or in one for extensions, and
-- the oneofs are there
pub record IsRangedMessage (m : MessageFacts) : Type 0 where
  pub unreserved : (f : FieldFacts) (n : ℤ) (r : ReservedRange)
      → Contains m.fields f → f.number ≡ Some n → Contains m.reserved r → IsIn n (reserved_range r)
      → ⊥
  pub no_extension : (f : FieldFacts) (n : ℤ) (r : ExtensionRangeContent)
      → Contains m.fields f → f.number ≡ Some n → Contains m.extensions r
      → IsIn n (extension_range r) → ⊥
  pub oneofs : AllByRecursion (λ f. HasOneof m.oneofs f.oneof) m.fields

abbrev pub IsRanged : Body → Type 0
IsRanged (of_message m) = IsRangedMessage m
IsRanged (of_field f) = Unit {0}
IsRanged (of_oneof o) = Unit {0}
IsRanged (of_enum e) = Unit {0}
IsRanged (of_value v) = Unit {0}
IsRanged (of_service s) = Unit {0}
IsRanged (of_method m) = Unit {0}
IsRanged (of_extension x) = Unit {0}

-- the number of a field's type and the name fit together
abbrev pub IsTyped : Body → Type 0
IsTyped (of_message m) = Unit {0}
IsTyped (of_field f) = HasType f.field_type f.type_name
IsTyped (of_oneof o) = Unit {0}
IsTyped (of_enum e) = Unit {0}
IsTyped (of_value v) = Unit {0}
IsTyped (of_service s) = Unit {0}
IsTyped (of_method m) = Unit {0}
IsTyped (of_extension x) = HasType x.field_type x.type_name

-- what is said of the types of declared messages is what is declared
abbrev pub TellsOf : TypesSay → walk.Declaration → Type 0
TellsOf types d = elim d.body [
  | walk.of_file f ↦ Unit {0}
  | walk.of_message m ↦ AreDeclared m (record {
    reserved = types.reserved d.index;
    extensions = types.extensions d.index;
    is_entry = types.is_entry d.index;
  })
  | walk.of_field f ↦ Unit {0}
  | walk.of_oneof o ↦ Unit {0}
  | walk.of_enum e ↦ Unit {0}
  | walk.of_enum_value v ↦ Unit {0}
  | walk.of_service s ↦ Unit {0}
  | walk.of_method m ↦ Unit {0}
  | walk.of_extension x ↦ Unit {0}
]

-- declarations one after another, each by what it refers to
abbrev pub AreMet : Facts → Values → Place → List walk.Declaration → Type 0
AreMet g values p [] = Unit {0}
AreMet g values p (d ∷ ds) = IsMet g values p d × AreMet g values (place_behind p d) ds

-- of each declaration of files
abbrev pub Each : (Body → Type 0) → List FileContent → Type 0
Each P fs =
    (f : FileContent) (d : Declaration) → Contains fs f → Contains (declarations f) d → P d.body

abbrev pub AreRuled : List FileContent → Type 0
AreRuled fs = (f : FileContent) (d : Declaration) → Contains fs f → Contains (declarations f) d
    → IsRuled (is_proto3 f) d.body × IsRanged d.body
