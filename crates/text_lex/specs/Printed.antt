-- What is printed of tokens.
use Rattle.std.specs.Prelude.{ℕ, Bool, false, ◌/◌, ◌%◌, ◌&&◌, ◌||◌, if◌then◌else◌, ◌==◌, nat_le, [], ◌∷◌, ◌++◌, codes}
use Rattle.std.specs.Fmt.{digit_glyph}
use Rattle.std.specs.List.{flat_map}
use Rattle.protox_lex.specs.Class.{Text}
use Rattle.protox_lex.specs.Escapes as source
use Rattle.protox_lex.specs.Lex.{unescaped}
use Rattle.text_lex.specs.Token.{Token, ident, int, float, str, sign}

-- a tab, the end of a line, or printable ASCII
abbrev pub is_readable : ℕ → Bool
is_readable b = b == 9 || (b == 10 || (b == 13 || (nat_le 32 b && nat_le b 126)))

-- `\x` and two hexadecimal digits
abbrev pub hex_escape : ℕ → Text
hex_escape b = codes "\\x" ++ (digit_glyph false (b / 16) ∷ digit_glyph false (b % 16) ∷ [])

-- what can be read as sources have it between quotes, and other bytes in hexadecimal digits
abbrev pub escaped_byte : ℕ → Text
escaped_byte b = if is_readable b then source.escaped_byte b else hex_escape b

-- all of them
abbrev pub escaped : Text → Text
escaped bs = flat_map escaped_byte bs

-- a word and a float as they are written, an integer without its prefix, and a sign
abbrev pub plain_text : Token → Text
plain_text (ident w) = w
plain_text (int r digits) = digits
plain_text (float s) = s
plain_text (str s) = []
plain_text (sign b) = b ∷ []

-- and of a string in `"` the bytes that it means, escaped
abbrev pub printed : Token → Text
printed (str raw) = 34 ∷ (escaped (unescaped raw) ++ 34 ∷ [])
printed t = plain_text t
