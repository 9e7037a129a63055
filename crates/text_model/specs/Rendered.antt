-- The text of a printed tree, on one line and pretty.
use Rattle.std.specs.Prelude.{ℕ, cond, ◌+◌, List, [], ◌∷◌, ◌++◌, drop, replicate}
use Rattle.std.specs.List.{flat_map}
use Rattle.protox_lex.specs.Class.{Text}
use Rattle.text_lex.specs.declared.token.Radix.TheVariants as radix
use Rattle.text_lex.specs.Token.{Token, ident, int, float, str, sign}
use Rattle.text_model.specs.Forms.{Form}
use Rattle.text_model.specs.Tree.{Value, scalar, braced, Values, no_values, more_values, Given, one_scalar, one_message, listed, Fields, no_fields, more_fields}
use Rattle.text_model.specs.Tokens.{name_tokens, scalar_tokens, fields_tokens}

-- a string stands in double quotes
abbrev pub token_text : Token → Text
token_text (ident w) = w
token_text (int radix.Octal digits) = 48 ∷ digits
token_text (int radix.Decimal digits) = digits
token_text (int radix.Hexadecimal digits) = 48 ∷ 120 ∷ digits
token_text (float s) = s
token_text (str s) = 34 ∷ (s ++ 34 ∷ [])
token_text (sign b) = b ∷ []

-- tokens, one directly behind the other
abbrev pub run : List Token → Text
run ts = flat_map token_text ts

-- on one line without spaces
abbrev pub compact : Fields → Text
compact fs = run (fields_tokens fs)

-- a new line with so many spaces in front
abbrev pub line : ℕ → Text
line indent = 10 ∷ replicate indent 32

-- the brace behind fields
abbrev pub last_line : ℕ → Fields → Text
last_line n no_fields = 125 ∷ []
last_line n (more_fields name g s fs) = line n ++ 125 ∷ []

abbrev mutual
  pub pretty_value : ℕ → Value → Text
  pretty_value n (scalar s) = run (scalar_tokens s)
  pretty_value n (braced b fs) = 123 ∷ (lines (n + 2) fs ++ last_line n fs)

  -- the values behind the first of a list
  pub pretty_more : ℕ → Values → Text
  pretty_more n no_values = []
  pretty_more n (more_values v vs) = 44 ∷ 32 ∷ (pretty_value n v ++ pretty_more n vs)

  pub pretty_values : ℕ → Values → Text
  pretty_values n no_values = []
  pretty_values n (more_values v vs) = pretty_value n v ++ pretty_more n vs

  pub pretty_given : ℕ → Given → Text
  pretty_given n (one_scalar s) = 58 ∷ 32 ∷ run (scalar_tokens s)
  pretty_given n (one_message colon b fs) = 32 ∷ 123 ∷ (lines (n + 2) fs ++ last_line n fs)
  pretty_given n (listed vs) = 58 ∷ 32 ∷ 91 ∷ (pretty_values n vs ++ 93 ∷ [])

  -- each field on its own line, two spaces deeper in each message
  pub lines : ℕ → Fields → Text
  lines n no_fields = []
  lines n (more_fields name g s fs) =
      line n ++ (run (name_tokens name) ++ (pretty_given n g ++ lines n fs))

-- the first line has no line end before it
abbrev pub pretty : Fields → Text
pretty fs = drop 1 (lines 0 fs)

-- in the form
abbrev pub text_of : Form → Fields → Text
text_of form fs = cond form.pretty (pretty fs) (compact fs)
