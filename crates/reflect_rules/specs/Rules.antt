-- What the rules of numbers find wrong with declarations.
use Rattle.std.specs.declared.alloc.Global.{Global}
use Rattle.std.specs.Prelude.{◌≡◌, ℕ, ℤ, pos, List, [], ◌∷◌, ◌++◌, map, Bool, true, false, not, ◌&&◌, cond, nat_lt, Option, Some, None, unwrap_or, String, string_bytes}
use Rattle.descriptor_records.specs.declared.field.FieldDescriptorProto.{FieldDescriptorProto}
use Rattle.reflect_scope.specs.declared.definition.DefinitionKind.{DefinitionKind}
use Rattle.reflect_scope.specs.declared.definition.DefinitionKind.TheVariants as kind
use Rattle.reflect_declarations.specs.Tree.{MessageParts}
use Rattle.reflect_declarations.specs.Declarations.{Declaration, of_file, of_message, of_field, of_oneof, of_enum, of_enum_value, of_service, of_method, of_extension}
use Rattle.reflect_faults.specs.Faults.{Fault, duplicate_number, bad_default, bad_map_entry}
use Rattle.reflect_names.specs.Names.{Places}
use Rattle.reflect_tables.specs.Ranges.{Range, IsRangeOf}
use Rattle.reflect_rules.specs.TypesSay.{TypesSay}
use Rattle.reflect_references.specs.Meanings.{meaning, behind}
use Rattle.reflect_rules.specs.Numbers.{number_faults, reserved_faults, kept_faults, outside_faults, oneof_faults}
use Rattle.reflect_rules.specs.Repeats.{repeat_faults}
use Rattle.reflect_walk.specs.MapEntries.{says_entry}
use Rattle.reflect_rules.specs.MapEntries.{has_entry_shape}
use Rattle.reflect_rules.specs.EnumRules.{enum_faults}
use Rattle.reflect_defaults.specs.Defaults.{IsScalarSuited}
use Rattle.reflect_rules.specs.Walks.{Facts, Place}
use Rattle.reflect_rules.specs.declared.uses.EntryUse.{EntryUse}
use Rattle.reflect_rules.specs.declared.uses.EntryUse.TheVariants as use_kind

abbrev pub is_one_map : Option EntryUse → Bool
is_one_map (Some use_kind.OneMap) = true
is_one_map _ = false

-- the type of a map's entries that has not their shape, or is not the type of one repeated field
abbrev pub entry_faults : Places → List ℤ → List ℕ → Option EntryUse → MessageParts → List Fault
entry_faults at path name used m =
    cond (says_entry m.options && not (has_entry_shape m.field && is_one_map used))
    (bad_map_entry name (at path) ∷ []) []

abbrev pub message_faults : Places → List ℤ → List ℕ → Option EntryUse → MessageParts → List Fault
message_faults at path name used m = entry_faults at path name used m
    ++ repeat_faults duplicate_number (pos 2) (pos 3) path at (map (λ f. f.number) m.field)

-- the message that is meant, if one is
abbrev pub message_of : Option DefinitionKind → Option ℕ
message_of (Some (kind.Message i)) = Some i
message_of _ = None

-- a field whose type is that of the entries of an older file's map: these have their field
abbrev pub older_faults : Places → List ℤ → TypesSay → ℕ → Option ℕ → List Fault
older_faults at path types first None = []
older_faults at path types first (Some i) =
    cond (nat_lt i first && types.is_entry i) (bad_map_entry (types.name i) (at path) ∷ []) []

-- a default that does not suit
abbrev pub default_faults : Places → List ℤ → Option (String Global) → Bool → List Fault
default_faults at path None suits = []
default_faults at path (Some value) suits =
    cond suits [] (bad_default (string_bytes value) (at (path ++ (pos 7 ∷ []))) ∷ [])

-- what the values of enums are called
abbrev pub Values : Type 1
Values = ℕ → List ℕ → Bool → Type 0

-- the default of a scalar field is one of the type that has the number, that of an enum's field is
-- the name of one of its values, and no field of a message type has one
abbrev pub IsSuited : Values → Option ℤ → Option DefinitionKind → List ℕ → Bool → Type 0
IsSuited values number None text suits = IsScalarSuited number text suits
IsSuited values number (Some (kind.Enum i)) text suits = values i text suits
IsSuited values number (Some _) text suits = suits ≡ false

abbrev pub IsDefaultOf : Values → Option ℤ → Option DefinitionKind → Option (String Global) → Bool
    → Type 0
IsDefaultOf values number m None suits = suits ≡ true
IsDefaultOf values number m (Some text) suits = IsSuited values number m (string_bytes text) suits

-- what is found of a field: ranges with its number, and whether its default suits
pub record FieldFindings (g : Facts) (values : Values) (m : Option DefinitionKind) (message : ℕ)
    (n : ℤ) (f : FieldDescriptorProto) : Type 0 where
  pub reserved : Option Range
  pub kept : Option Range
  pub suits : Bool
  pub is_reserved : IsRangeOf (g.types.reserved message) n reserved
  pub is_kept : IsRangeOf (g.types.extensions message) n kept
  pub is_suited : IsDefaultOf values f.field_type m f.default_value suits

abbrev pub number_of : FieldDescriptorProto → ℤ
number_of f = unwrap_or f.number (pos 0)

abbrev pub FieldFaults : Facts → Values → ℕ → Places → List ℤ → ℕ → FieldDescriptorProto → ℤ
    → Option DefinitionKind → List Fault → Type 0
FieldFaults g values oneofs at path message f n m xs =
    (r : FieldFindings g values m message n f)
    × (xs ≡ number_faults at path n ++ reserved_faults at path n r.reserved
    ++ kept_faults at path n r.kept
    ++ oneof_faults at path oneofs f.oneof_index
    ++ older_faults at path g.types g.first (message_of m)
    ++ default_faults at path f.default_value r.suits)

-- the number of an extension of a message
abbrev pub ExtensionNumber : TypesSay → Places → List ℤ → ℤ → Option ℕ → List Fault → Type 0
ExtensionNumber types at path n None xs = xs ≡ []
ExtensionNumber types at path n (Some i) xs =
    (reserved : Option Range) × (kept : Option Range) × IsRangeOf (types.reserved i) n reserved
    × IsRangeOf (types.extensions i) n kept
    × (xs ≡ reserved_faults at path n reserved ++ outside_faults at path n (types.name i) kept)

-- what is found of an extension: the faults of its number, and whether its default suits
pub record ExtensionFindings (g : Facts) (values : Values) (at : Places) (path : List ℤ)
    (x : FieldDescriptorProto) (n : ℤ) (extendee m : Option DefinitionKind) : Type 0 where
  pub numbers : List Fault
  pub suits : Bool
  pub is_number : ExtensionNumber g.types at path n (message_of extendee) numbers
  pub is_suited : IsDefaultOf values x.field_type m x.default_value suits

abbrev pub ExtensionFaults : Facts → Values → Places → List ℤ → FieldDescriptorProto → ℤ
    → Option DefinitionKind → Option DefinitionKind → List Fault → Type 0
ExtensionFaults g values at path x n extendee m xs =
    (r : ExtensionFindings g values at path x n extendee m)
    × (xs ≡ number_faults at path n ++ r.numbers
    ++ older_faults at path g.types g.first (message_of m)
    ++ default_faults at path x.default_value r.suits)

-- the index of the message that a declaration is in
abbrev pub parent_of : Declaration → ℕ
parent_of d = unwrap_or d.parent 0

-- the faults of a declaration
abbrev pub FaultsOf : Facts → Values → Place → Places → Declaration → List Fault → Type 0
FaultsOf g values p at d xs = elim d.body [
  | of_file f ↦ xs ≡ []
  | of_message m ↦ xs ≡ message_faults at d.path d.name (g.uses d.index) m
  | of_field f ↦ FieldFaults g values p.oneofs at d.path (parent_of d) f (number_of f)
      (meaning f.type_name p.rest) xs
  | of_oneof o ↦ xs ≡ []
  | of_enum e ↦ xs ≡ enum_faults at d.path p.is_proto3 e
  | of_enum_value v ↦ xs ≡ []
  | of_service s ↦ xs ≡ []
  | of_method m ↦ xs ≡ []
  | of_extension x ↦ ExtensionFaults g values at d.path x (number_of x) (meaning x.extendee p.rest)
      (meaning x.type_name (behind x.extendee p.rest)) xs
]
