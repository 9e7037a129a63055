-- The types of fields that are no messages and no enums, and the texts that are defaults of such.
use Rattle.std.specs.Prelude.{◌≡◌, ◌⊎◌, ℕ, ℤ, pos, ◌^◌, ◌<◌, [], ◌∷◌, Bool, true, ◌||◌, ◌&&◌, false, cond, ◌==◌, nat_le, Option, Some, None, codes, FitsSigned}
use Rattle.std.specs.Int.{Width, w32, w64}
use Rattle.std.specs.Char.{is_ascii_digit}
use Rattle.std.specs.List.{list_all}
use Rattle.std.specs.Str.{IsUtf8}
use Rattle.std.specs.Str.Parse.{digits_value, signed_digits_value}
use Rattle.descriptor_records.specs.Content.{Text}
use Rattle.descriptor_records.specs.FieldNumbers.{type_number}
use Rattle.descriptor_records.specs.declared.field.FieldType.{FieldType}
use Rattle.descriptor_records.specs.declared.field.FieldType.TheVariants as types
use Rattle.protox_lex.specs.Spelled.{IsEscaped}

-- 10 is a group, 11 a message, 14 an enum
abbrev pub is_scalar : ℤ → Bool
is_scalar (pos n) = nat_le 1 n && nat_le n 9 || (n == 12 || (n == 13 || nat_le 15 n && nat_le n 18))
is_scalar _ = false

-- the number of a field's type where it has no name
abbrev pub scalar_type : Option ℤ → Option Text → Option ℤ
scalar_type type None = type
scalar_type type (Some name) = None

-- integers, bool and string: no float (1, 2), no bytes (12)
abbrev pub is_key_type : Option ℤ → Bool
is_key_type (Some (pos n)) = nat_le 3 n && nat_le n 9 || (n == 13 || nat_le 15 n && nat_le n 18)
is_key_type _ = false

-- one or more decimal digits
abbrev pub is_decimal : Text → Bool
is_decimal [] = false
is_decimal (c ∷ cs) = list_all is_ascii_digit (c ∷ cs)

-- the same, or behind a `-`
abbrev pub is_integer : Text → Bool
is_integer [] = false
is_integer (c ∷ cs) = cond (c == 45) (is_decimal cs) (is_decimal (c ∷ cs))

abbrev pub IsUnsigned : ℕ → Text → Type 0
IsUnsigned bits text = (is_decimal text ≡ true) × (digits_value 10 text < 2 ^ bits)

abbrev pub IsSigned : Width → Text → Type 0
IsSigned w text = (is_integer text ≡ true) × FitsSigned w (signed_digits_value 10 text)

-- the text is a default of the type; that of a float is not read, messages and enums have no such
-- texts
abbrev pub IsDefault : FieldType → Text → Type 0
IsDefault types.Int32 text = IsSigned w32 text
IsDefault types.Sint32 text = IsSigned w32 text
IsDefault types.Sfixed32 text = IsSigned w32 text
IsDefault types.Int64 text = IsSigned w64 text
IsDefault types.Sint64 text = IsSigned w64 text
IsDefault types.Sfixed64 text = IsSigned w64 text
IsDefault types.Uint32 text = IsUnsigned 32 text
IsDefault types.Fixed32 text = IsUnsigned 32 text
IsDefault types.Uint64 text = IsUnsigned 64 text
IsDefault types.Fixed64 text = IsUnsigned 64 text
IsDefault types.Bool text = (text ≡ codes "true") ⊎ (text ≡ codes "false")
IsDefault types.String text = IsUtf8 text
IsDefault types.Bytes text = IsEscaped text
IsDefault types.Float text = Unit {0}
IsDefault types.Double text = Unit {0}
IsDefault _ text = ⊥

-- and of the type that has the number
abbrev pub IsScalarDefault : ℤ → Text → Type 0
IsScalarDefault n text = (t : FieldType) × (type_number t ≡ n) × IsDefault t text
