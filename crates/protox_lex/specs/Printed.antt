-- Tokens as they are printed, which is how the text of an option's braces has them.
use Rattle.std.specs.Prelude.{if◌then◌else◌, ◌++◌, [], ◌∷◌, codes}
use Rattle.std.specs.Fmt.{decimal}
use Rattle.protox_lex.specs.Class.{Text}
use Rattle.protox_lex.specs.Escapes.{escaped}
use Rattle.protox_lex.specs.Lex.{unescaped}
use Rattle.protox_lex.specs.Token.{Token, ident, int, float, str, sign, comment}
use Rattle.protox_lex.specs.declared.literal.Int.{Int}
use Rattle.protox_lex.specs.declared.token.Sign.{Sign}
use Rattle.protox_lex.specs.declared.token.Sign.TheVariants as s

abbrev pub sign_text : Sign → Text
sign_text s.Dot = codes "."
sign_text s.Minus = codes "-"
sign_text s.LeftParen = codes "("
sign_text s.RightParen = codes ")"
sign_text s.LeftBrace = codes "{"
sign_text s.RightBrace = codes "}"
sign_text s.LeftBracket = codes "["
sign_text s.RightBracket = codes "]"
sign_text s.LeftAngleBracket = codes "<"
sign_text s.RightAngleBracket = codes ">"
sign_text s.Comma = codes ","
sign_text s.Equals = codes "="
sign_text s.Colon = codes ":"
sign_text s.Semicolon = codes ";"
sign_text s.ForwardSlash = codes "/"

-- An integer in decimal, a string in `"` with its bytes escaped, and all else as it is written.
abbrev pub token_text : Token → Text
token_text (ident t) = t
token_text (int n) = decimal n
token_text (float t) = t
token_text (str raw) = 34 ∷ (escaped (unescaped raw) ++ 34 ∷ [])
token_text (sign k) = sign_text k
token_text comment = codes "#"

-- An integer that a tree keeps, in decimal, behind a minus if it is negative.
abbrev pub int_text : Int → Text
int_text n = (if n.negative then codes "-" else []) ++ decimal n.value
