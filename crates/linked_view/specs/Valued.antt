-- What the entries of a pool's enums tell of its records.
use Rattle.std.specs.Prelude.{◌≡◌, ℤ, List, [], ◌∷◌, ◌++◌, map, Contains}
use Rattle.std.specs.List.{flat_map}
use Rattle.descriptor_records.specs.Content.{Text, EnumValueContent, FileContent, file_view}
use Rattle.reflect_tables.specs.Types.{PoolType, EnumType, ValueType}
use Rattle.schema_view.specs.Declarations.{Declaration, declarations, of_message, of_field, of_oneof, of_enum, of_value, of_service, of_method, of_extension}
use Rattle.schema_view.specs.Lawful.{outlines, Meanings, SuitsEnum}
use Rattle.schema_view.specs.Outlines.{value_name}
use Rattle.schema_view.specs.References.{linked}
use Rattle.schema_view.specs.Types.{number_in}

-- a value's name and its number
abbrev pub NumberedValue : Type 0
NumberedValue = Text × ℤ

abbrev pub numbered_value : EnumValueContent → NumberedValue
numbered_value v = (value_name v, number_in v)

abbrev pub kept_value : ValueType → NumberedValue
kept_value v = (v.name, v.number)

abbrev pub called : List NumberedValue → List Text
called vs = map (λ (v : NumberedValue). v.0) vs

-- an enum's full name, and its values
abbrev pub NamedValues : Type 0
NamedValues = Text × List NumberedValue

abbrev pub values_in : Declaration → List NamedValues
values_in d = elim d.body [
  | of_message m ↦ []
  | of_field f ↦ []
  | of_oneof o ↦ []
  | of_enum e ↦ (d.name, map numbered_value e.value) ∷ []
  | of_value v ↦ []
  | of_service s ↦ []
  | of_method m ↦ []
  | of_extension x ↦ []
]

-- of all enums of files, in their order
abbrev pub written_values : List FileContent → List NamedValues
written_values fs = flat_map (λ f. flat_map values_in (declarations f)) fs

abbrev pub kept_values : EnumType → NamedValues
kept_values e = (e.full_name, map kept_value e.values)

-- the entries of a pool's enums are those of its records, one after another
abbrev pub TellsValues : PoolType → Type 0
TellsValues p = map kept_values p.enums ≡ written_values (map file_view p.records)

-- each default of the new files, linked, that stands at an enum's name is the name of one of the
-- enum's values
abbrev pub SuitEnums : List FileContent → List FileContent → Meanings → Type 0
SuitEnums old new meanings = (f : FileContent) (d : Declaration)
    → Contains new f → Contains (declarations (linked (meanings f) f)) d
    → SuitsEnum (outlines (old ++ new)) d.body
