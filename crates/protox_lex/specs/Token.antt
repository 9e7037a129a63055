-- What a source is made of.
use Rattle.std.specs.Prelude.{ℕ}
use Rattle.protox_lex.specs.Class.{Text}
use Rattle.protox_lex.specs.declared.error.LexErrorKind.{LexErrorKind}
use Rattle.protox_lex.specs.declared.token.Sign.{Sign}

-- A float is kept as it is written, and a string as what stands between its quotes.
pub data Token : Type 0 where
  ident : Text → Token
  int : ℕ → Token
  float : Text → Token
  str : Text → Token
  sign : Sign → Token
  comment : Token

-- what the text is cut into
pub data Piece : Type 0 where
  gap : Piece
  token : Token → Piece

-- a token and the bytes that it takes, or the fault that ends the list
pub data Lexeme : Type 0 where
  token_at : ℕ → ℕ → Token → Lexeme
  fault_at : LexErrorKind → ℕ → ℕ → Lexeme
