-- The braces that open and close a message in a text.
use Rattle.std.specs.Prelude.{ℕ, List, Option, None, Some, codes}
use Rattle.protox_lex.specs.Class.{Text}
use Rattle.protox_lex.specs.declared.span.Span.{Span}
use Rattle.text_lex.specs.Token.{Lexeme}
use Rattle.text_scalars.specs.Front.{sign_bytes}
use Rattle.text_scalars.specs.declared.tokens.Brace.{Brace}
use Rattle.text_scalars.specs.declared.tokens.Brace.TheVariants as braces

-- `}` and `>`
abbrev pub closing : Brace → ℕ
closing braces.Curly = 125
closing braces.Angle = 62

abbrev pub closing_words : Brace → Text
closing_words braces.Curly = codes "'}' or a field name"
closing_words braces.Angle = codes "'>' or a field name"

-- `{` or `<` at the front, and what closes it
abbrev pub opening_brace : List Lexeme → Option (Span × Brace)
opening_brace ls =
    elim (sign_bytes 123 ls) [
      | Some s ↦ Some (s, braces.Curly)
      | None ↦ elim (sign_bytes 60 ls) [ Some s ↦ Some (s, braces.Angle) | None ↦ None ]
    ]
