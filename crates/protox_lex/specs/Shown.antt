-- What the code shows of pieces and of what a lexer has left.
use Rattle.std.specs.Prelude.{◌≡◌, List, drop, Result, Ok, Err}
use Rattle.protox_lex.specs.declared.front.Piece as front
use Rattle.protox_lex.specs.declared.front.Piece.TheVariants as fronts
use Rattle.protox_lex.specs.declared.lexer.Lexer.{Lexer}
use Rattle.protox_lex.specs.declared.token.Token as code
use Rattle.protox_lex.specs.declared.token.Token.TheVariants as codes
use Rattle.protox_lex.specs.Lex.{lexemes_from}
use Rattle.protox_lex.specs.Token.{Token, ident, int, float, str, sign, comment, Piece, gap, token, Lexeme}

abbrev pub token_of : code.Token → Token
token_of (codes.Ident s) = ident s.now
token_of (codes.Int n) = int n
token_of (codes.Float s) = float s.now
token_of (codes.String s) = str s.now
token_of (codes.Sign s) = sign s
token_of codes.HashComment = comment

abbrev pub piece_view : front.Piece → Piece
piece_view fronts.Gap = gap
piece_view (fronts.Token t) = token (token_of t)

-- What a function returned, seen by view, is what the definition gives.
abbrev pub Returns : {X Y E : Type 0} → (X → Y) → Result X E → Result Y E → Type 0
Returns view (Ok x) read = read ≡ Ok (view x)
Returns view (Err e) read = read ≡ Err e

-- the tokens that are left
abbrev pub stream : Lexer → List Lexeme
stream l = lexemes_from l.at 0 (drop l.at l.source.now)
