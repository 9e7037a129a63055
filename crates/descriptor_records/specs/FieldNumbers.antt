-- The numbers that stand for labels and types in the records of fields.
use Rattle.std.specs.Prelude.{◌≡◌, ℤ, pos, Option, Some, None}
use Rattle.descriptor_records.specs.declared.field.Label.{Label}
use Rattle.descriptor_records.specs.declared.field.Label.TheVariants as labels
use Rattle.descriptor_records.specs.declared.field.FieldType.{FieldType}
use Rattle.descriptor_records.specs.declared.field.FieldType.TheVariants as types

abbrev pub label_number : Label → ℤ
label_number labels.Optional = pos 1
label_number labels.Required = pos 2
label_number labels.Repeated = pos 3

abbrev pub type_number : FieldType → ℤ
type_number types.Double = pos 1
type_number types.Float = pos 2
type_number types.Int64 = pos 3
type_number types.Uint64 = pos 4
type_number types.Int32 = pos 5
type_number types.Fixed64 = pos 6
type_number types.Fixed32 = pos 7
type_number types.Bool = pos 8
type_number types.String = pos 9
type_number types.Group = pos 10
type_number types.Message = pos 11
type_number types.Bytes = pos 12
type_number types.Uint32 = pos 13
type_number types.Enum = pos 14
type_number types.Sfixed32 = pos 15
type_number types.Sfixed64 = pos 16
type_number types.Sint32 = pos 17
type_number types.Sint64 = pos 18

-- the label of a number; none where no label has it
abbrev pub IsLabelOf : ℤ → Option Label → Type 0
IsLabelOf n (Some l) = label_number l ≡ n
IsLabelOf n None = (l : Label) → label_number l ≡ n → ⊥

-- the type of a number; none where no type has it
abbrev pub IsTypeOf : ℤ → Option FieldType → Type 0
IsTypeOf n (Some t) = type_number t ≡ n
IsTypeOf n None = (t : FieldType) → type_number t ≡ n → ⊥
