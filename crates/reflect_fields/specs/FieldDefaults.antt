-- The default that a field's record gives (descriptor.proto, `default_value`).
use Rattle.std.specs.Prelude.{◌≡◌, List, ℕ, ℤ, Option, None, Some, option_map, string_bytes}
use Rattle.descriptor_records.specs.declared.field.FieldDescriptorProto.{FieldDescriptorProto}
use Rattle.descriptor_records.specs.declared.field.FieldType.{FieldType}
use Rattle.descriptor_records.specs.FieldNumbers.{IsTypeOf}
use Rattle.protox_lex.specs.Lex.{unescaped}
use Rattle.reflect_defaults.specs.Defaults.{SaysDefault}
use Rattle.reflect_defaults.specs.declared.default.DefaultText.{DefaultText}
use Rattle.reflect_defaults.specs.declared.default.DefaultText.TheVariants as says
use Rattle.reflect_tables.specs.Types.{KindType, enumeration, DefaultType, signed, unsigned, truth, text, octets, named, fraction}

-- what a text that says this is the default of
abbrev pub default_type : List ℕ → DefaultText → DefaultType
default_type s (says.I64 n) = signed n
default_type s (says.U64 n) = unsigned n
default_type s (says.Bool b) = truth b
default_type s says.Text = text s
default_type s says.Bytes = octets (unescaped s)
default_type s says.Float = fraction s

-- what the text says as the scalar type's default; none where it says nothing
abbrev pub IsScalarDefault : FieldType → List ℕ → Option DefaultType → Type 0
IsScalarDefault t s d = (read : Option DefaultText) × SaysDefault t s read
    × (d ≡ option_map (default_type s) read)

-- the same of the type that has the number
abbrev pub IsDefaultOf : Option FieldType → List ℕ → Option DefaultType → Type 0
IsDefaultOf None s d = d ≡ None
IsDefaultOf (Some t) s d = IsScalarDefault t s d

abbrev pub IsNumbered : Option ℤ → Option FieldType → Type 0
IsNumbered None t = t ≡ None
IsNumbered (Some n) t = IsTypeOf n t

-- an enum's is the name of a value
abbrev pub IsWritten : KindType → Option ℤ → List ℕ → Option DefaultType → Type 0
IsWritten (enumeration i) number s d = d ≡ Some (named s)
IsWritten k number s d = (t : Option FieldType) × IsNumbered number t × IsDefaultOf t s d

abbrev pub IsDefault : KindType → FieldDescriptorProto → Option DefaultType → Type 0
IsDefault k f d = elim f.default_value
    [ None ↦ d ≡ None | Some s ↦ IsWritten k f.field_type (string_bytes s) d ]
