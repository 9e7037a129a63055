-- The texts that are defaults of scalar types.
use Rattle.std.specs.Prelude.{◌≡◌, ℕ, ℤ, ◌^◌, ◌<◌, List, [], ◌∷◌, Bool, true, false, cond, ◌==◌, Option, Some, None, codes, FitsSigned}
use Rattle.std.specs.Bool.{Decides}
use Rattle.std.specs.Int.{Width, w32, w64}
use Rattle.std.specs.Char.{is_ascii_digit}
use Rattle.std.specs.List.{list_all}
use Rattle.std.specs.Str.Parse.{digits_value, signed_digits_value}
use Rattle.descriptor_records.specs.declared.field.FieldType.{FieldType}
use Rattle.descriptor_records.specs.declared.field.FieldType.TheVariants as types
use Rattle.descriptor_records.specs.FieldNumbers.{IsTypeOf}
use Rattle.protox_lex.specs.Spelled.{IsEscaped}
use Rattle.reflect_defaults.specs.declared.default.DefaultText.{DefaultText}
use Rattle.reflect_defaults.specs.declared.default.DefaultText.TheVariants as says

-- one or more decimal digits
abbrev pub is_decimal : List ℕ → Bool
is_decimal [] = false
is_decimal (c ∷ cs) = list_all is_ascii_digit (c ∷ cs)

-- decimal digits, or a `-` and decimal digits
abbrev pub is_integer : List ℕ → Bool
is_integer [] = false
is_integer (c ∷ cs) = cond (c == 45) (is_decimal cs) (is_decimal (c ∷ cs))

-- a number of a type without a sign, of so many bits
abbrev pub IsUnsigned : ℕ → List ℕ → Type 0
IsUnsigned bits text = (is_decimal text ≡ true) × (digits_value 10 text < 2 ^ bits)

-- a number of a type with a sign
abbrev pub IsSigned : Width → List ℕ → Type 0
IsSigned w text = (is_integer text ≡ true) × FitsSigned w (signed_digits_value 10 text)

abbrev pub IsTruth : List ℕ → DefaultText → Type 0
IsTruth text (says.Bool true) = text ≡ codes "true"
IsTruth text (says.Bool false) = text ≡ codes "false"
IsTruth text _ = ⊥

-- a text, and what it says as the default of a type; messages, groups and enums have no such texts
abbrev pub Says : FieldType → List ℕ → DefaultText → Type 0
Says types.Int32 text d = IsSigned w32 text × (d ≡ says.I64 (signed_digits_value 10 text))
Says types.Sint32 text d = IsSigned w32 text × (d ≡ says.I64 (signed_digits_value 10 text))
Says types.Sfixed32 text d = IsSigned w32 text × (d ≡ says.I64 (signed_digits_value 10 text))
Says types.Int64 text d = IsSigned w64 text × (d ≡ says.I64 (signed_digits_value 10 text))
Says types.Sint64 text d = IsSigned w64 text × (d ≡ says.I64 (signed_digits_value 10 text))
Says types.Sfixed64 text d = IsSigned w64 text × (d ≡ says.I64 (signed_digits_value 10 text))
Says types.Uint32 text d = IsUnsigned 32 text × (d ≡ says.U64 (digits_value 10 text))
Says types.Fixed32 text d = IsUnsigned 32 text × (d ≡ says.U64 (digits_value 10 text))
Says types.Uint64 text d = IsUnsigned 64 text × (d ≡ says.U64 (digits_value 10 text))
Says types.Fixed64 text d = IsUnsigned 64 text × (d ≡ says.U64 (digits_value 10 text))
Says types.Bool text d = IsTruth text d
Says types.String text d = d ≡ says.Text
Says types.Bytes text d = IsEscaped text × (d ≡ says.Bytes)
Says types.Float text d = d ≡ says.Float
Says types.Double text d = d ≡ says.Float
Says _ text d = ⊥

-- what the text says as the type's default; none where it says nothing
abbrev pub SaysDefault : FieldType → List ℕ → Option DefaultText → Type 0
SaysDefault t text (Some d) = Says t text d
SaysDefault t text None = (d : DefaultText) → Says t text d → ⊥

abbrev pub HasDefault : Option FieldType → List ℕ → Type 0
HasDefault None text = ⊥
HasDefault (Some t) text = (d : DefaultText) × Says t text d

-- whether the text is a default of the type that has the number
abbrev pub IsScalarSuited : Option ℤ → List ℕ → Bool → Type 0
IsScalarSuited None text suits = suits ≡ false
IsScalarSuited (Some n) text suits = (t : Option FieldType) × IsTypeOf n t
    × Decides suits (HasDefault t text)
