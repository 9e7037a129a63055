-- What a text is made of.
use Rattle.std.specs.Prelude.{ℕ}
use Rattle.protox_lex.specs.Class.{Text}
use Rattle.text_lex.specs.declared.lexer.LexError.{LexError}
use Rattle.text_lex.specs.declared.token.Radix.{Radix}

-- An integer is kept as its digits and what they count in, a float as it is written, a string as
-- what stands between its quotes, and a sign as its byte.
pub data Token : Type 0 where
  ident : Text → Token
  int : Radix → Text → Token
  float : Text → Token
  str : Text → Token
  sign : ℕ → Token

-- what the text is cut into
pub data Piece : Type 0 where
  gap : Piece
  token : Token → Piece

-- a token and the bytes that it takes, or the fault that ends the list
pub data Lexeme : Type 0 where
  token_at : ℕ → ℕ → Token → Lexeme
  fault : LexError → Lexeme
