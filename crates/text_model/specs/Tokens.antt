-- The tokens of a tree, and how many braces are open in it at once. A sign is its byte.
use Rattle.std.specs.Prelude.{ℕ, suc, max, Bool, true, false, List, [], ◌∷◌, ◌++◌, map}
use Rattle.std.specs.List.{flat_map}
use Rattle.protox_lex.specs.Class.{Text}
use Rattle.text_lex.specs.Token.{Token, ident, int, float, str, sign}
use Rattle.text_model.specs.Tree.{FullName, FieldName, plain, extension, expansion, Word, integer, floating, identifier, ScalarValue, signed, strings, Brace, curly, angle, Separator, no_separator, comma, semicolon, Value, scalar, braced, Values, no_values, more_values, Given, one_scalar, one_message, listed, Fields, no_fields, more_fields}

-- a dot, and an identifier behind it
abbrev pub dotted : Text → List Token
dotted w = sign 46 ∷ ident w ∷ []

abbrev pub full_name_tokens : FullName → List Token
full_name_tokens n = ident n.first ∷ flat_map dotted n.others

-- in `[` and `]`, with `/` behind a domain
abbrev pub name_tokens : FieldName → List Token
name_tokens (plain w) = ident w ∷ []
name_tokens (extension n) = sign 91 ∷ (full_name_tokens n ++ sign 93 ∷ [])
name_tokens (expansion d n) =
    sign 91 ∷ (full_name_tokens d ++ sign 47 ∷ (full_name_tokens n ++ sign 93 ∷ []))

abbrev pub word_token : Word → Token
word_token (integer r digits) = int r digits
word_token (floating s) = float s
word_token (identifier w) = ident w

abbrev pub scalar_tokens : ScalarValue → List Token
scalar_tokens (signed true w) = sign 45 ∷ word_token w ∷ []
scalar_tokens (signed false w) = word_token w ∷ []
scalar_tokens (strings s ss) = str s ∷ map str ss

-- `{` and `}`, `<` and `>`
abbrev pub opening : Brace → Token
opening curly = sign 123
opening angle = sign 60

abbrev pub closing : Brace → Token
closing curly = sign 125
closing angle = sign 62

-- `,` and `;`
abbrev pub separator_tokens : Separator → List Token
separator_tokens no_separator = []
separator_tokens comma = sign 44 ∷ []
separator_tokens semicolon = sign 59 ∷ []

abbrev pub colon_tokens : Bool → List Token
colon_tokens true = sign 58 ∷ []
colon_tokens false = []

abbrev mutual
  pub value_tokens : Value → List Token
  value_tokens (scalar s) = scalar_tokens s
  value_tokens (braced b fs) = opening b ∷ (fields_tokens fs ++ closing b ∷ [])

  -- the values behind the first of a list
  pub more_tokens : Values → List Token
  more_tokens no_values = []
  more_tokens (more_values v vs) = sign 44 ∷ (value_tokens v ++ more_tokens vs)

  pub values_tokens : Values → List Token
  values_tokens no_values = []
  values_tokens (more_values v vs) = value_tokens v ++ more_tokens vs

  pub given_tokens : Given → List Token
  given_tokens (one_scalar s) = sign 58 ∷ scalar_tokens s
  given_tokens (one_message colon b fs) =
      colon_tokens colon ++ opening b ∷ (fields_tokens fs ++ closing b ∷ [])
  given_tokens (listed vs) = sign 58 ∷ sign 91 ∷ (values_tokens vs ++ sign 93 ∷ [])

  pub fields_tokens : Fields → List Token
  fields_tokens no_fields = []
  fields_tokens (more_fields n g s fs) =
      name_tokens n ++ (given_tokens g ++ (separator_tokens s ++ fields_tokens fs))

abbrev mutual
  pub value_braces : Value → ℕ
  value_braces (scalar s) = 0
  value_braces (braced b fs) = suc (open_braces fs)

  pub values_braces : Values → ℕ
  values_braces no_values = 0
  values_braces (more_values v vs) = max (value_braces v) (values_braces vs)

  pub given_braces : Given → ℕ
  given_braces (one_scalar s) = 0
  given_braces (one_message colon b fs) = suc (open_braces fs)
  given_braces (listed vs) = values_braces vs

  -- how many braces are open at once at most
  pub open_braces : Fields → ℕ
  open_braces no_fields = 0
  open_braces (more_fields n g s fs) = max (given_braces g) (open_braces fs)
