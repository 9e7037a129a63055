-- What of a text is not taken.
use Rattle.std.specs.Prelude.{List, [], ◌∷◌, Option, None, Some, Result, Ok, Err}
use Rattle.text_lex.specs.declared.lexer.LexError.{LexError}
use Rattle.text_lex.specs.declared.lexer.Lexeme as code
use Rattle.text_lex.specs.Shown.{token_of}
use Rattle.text_lex.specs.Stream.{stream}
use Rattle.text_lex.specs.Token.{Lexeme, token_at, fault}
use Rattle.text_scalars.specs.declared.tokens.Tokens.{Tokens}

-- a token and its bytes
abbrev pub lexeme_of : code.Lexeme → Lexeme
lexeme_of l = token_at l.span.start l.span.end (token_of l.token)

-- what was read ahead, and what stands behind it
abbrev pub from_ahead : Result (Option code.Lexeme) LexError → List Lexeme → List Lexeme
from_ahead (Ok None) ls = []
from_ahead (Ok (Some l)) ls = lexeme_of l ∷ ls
from_ahead (Err e) ls = fault e ∷ []

-- the lexemes that are not taken: tokens, and at the first fault that fault and no more
abbrev pub remaining : Tokens → List Lexeme
remaining t = from_ahead t.ahead (stream t.lexer)
