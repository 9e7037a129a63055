-- The piece at the front of a text, as it is cut: that of a source, but for `/`, for signs that a
-- text does not have, and for the size of integers.
use Rattle.std.specs.Prelude.{ℕ, zero, suc, ◌+◌, ◌-◌, ◌&&◌, ◌||◌, if◌then◌else◌, ◌==◌, nat_lt, List, [], ◌∷◌, length, take, drop, slice_index, Option, Some, None, Result, Ok, Err}
use Rattle.protox_lex.specs.Class.{Text}
use Rattle.protox_lex.specs.Lex as source
use Rattle.protox_lex.specs.Token as sources
use Rattle.protox_lex.specs.declared.error.LexErrorKind.{LexErrorKind}
use Rattle.protox_lex.specs.declared.error.LexErrorKind.TheVariants as kinds
use Rattle.protox_lex.specs.declared.token.Sign.{Sign}
use Rattle.protox_lex.specs.declared.token.Sign.TheVariants as signs
use Rattle.text_lex.specs.declared.lexer.LexError.{LexError}
use Rattle.text_lex.specs.declared.lexer.LexError.TheVariants as errors
use Rattle.text_lex.specs.declared.token.Radix.TheVariants as radix
use Rattle.text_lex.specs.Token.{Token, ident, int, float, str, sign, Piece, gap, token, Lexeme, token_at, fault}
use Rattle.text_lex.specs.Longest.{is_sign, from_to}

-- a piece and its length, or why none is cut
abbrev pub Cut : Type 0
Cut = Result (Piece × ℕ) LexError

-- the integer that is written so
abbrev pub int_of : Text → Token
int_of z =
    if slice_index z 0 == 48 && (slice_index z 1 == 120 || slice_index z 1 == 88)
    then int radix.Hexadecimal (drop 2 z)
    else if slice_index z 0 == 48 && nat_lt 1 (length z) then int radix.Octal (drop 1 z)
    else int radix.Decimal z

-- the byte that a sign of a source is
abbrev pub sign_byte : Sign → ℕ
sign_byte signs.Dot = 46
sign_byte signs.Minus = 45
sign_byte signs.LeftParen = 40
sign_byte signs.RightParen = 41
sign_byte signs.LeftBrace = 123
sign_byte signs.RightBrace = 125
sign_byte signs.LeftBracket = 91
sign_byte signs.RightBracket = 93
sign_byte signs.LeftAngleBracket = 60
sign_byte signs.RightAngleBracket = 62
sign_byte signs.Comma = 44
sign_byte signs.Equals = 61
sign_byte signs.Colon = 58
sign_byte signs.Semicolon = 59
sign_byte signs.ForwardSlash = 47

-- the sign that a byte is
abbrev pub sign_at : ℕ → Option Token
sign_at b = if is_sign b then Some (sign b) else None

-- what a token of a source, written in these bytes, is in a text
abbrev pub token_in : Text → sources.Token → Option Token
token_in z (sources.ident s) = Some (ident s)
token_in z (sources.int n) = Some (int_of z)
token_in z (sources.float s) = Some (float s)
token_in z (sources.str s) = Some (str s)
token_in z (sources.sign s) = sign_at (sign_byte s)
token_in z sources.comment = None

abbrev pub taken : ℕ → Option Token → ℕ → Cut
taken at (Some t) n = Ok (token t, n)
taken at None n = Err (errors.InvalidToken (from_to at 0 n))

-- where a source has this fault
abbrev pub refused : ℕ → Text → LexErrorKind → ℕ → ℕ → Cut
refused at z kinds.IntegerOutOfRange start end = Ok (token (int_of (take end z)), end)
refused at z kinds.InvalidStringCharacters start end =
    Err (errors.InvalidStringCharacters (from_to at start end))
refused at z kinds.InvalidStringEscape start end =
    Err (errors.InvalidStringEscape (from_to at start end))
refused at z kinds.UnterminatedString start end = Err errors.UnterminatedString
refused at z kinds.NoSpaceBetweenIntAndIdent start end =
    Err (errors.NoSpaceBetweenIntAndIdent (from_to at start end))
refused at z kinds.InvalidToken start end = Err (errors.InvalidToken (from_to at start end))
refused at z kinds.NestedBlockComment start end = Err (errors.InvalidToken (from_to at start end))
refused at z kinds.UnterminatedComment start end = Err (errors.InvalidToken (from_to at start end))
refused at z kinds.HashCommentOutsideTextFormat start end =
    Err (errors.InvalidToken (from_to at start end))
refused at z kinds.FloatSuffixOutsideTextFormat start end =
    Err (errors.InvalidToken (from_to at start end))

-- where a source is cut so
abbrev pub as_text : ℕ → Text → source.Cut → Cut
as_text at z (Ok (sources.gap, n)) = Ok (gap, n)
as_text at z (Ok (sources.token t, n)) = taken at (token_in (take n z) t) n
as_text at z (Err f) = refused at z f.kind f.start f.end

-- The text begins at the place `at`.
unfoldable pub front : ℕ → Text → Cut
front at z =
    if slice_index z 0 == 47 then Ok (token (sign 47), 1)
    else if slice_index z 0 == 35 then Ok (gap, source.past_line z)
    else as_text at z (source.front z)

-- ---- the whole text

abbrev pub emit : ℕ → Cut → (ℕ → List Lexeme) → List Lexeme
emit at (Ok (gap, n)) rest = rest n
emit at (Ok (token t, n)) rest = token_at at (at + n) t ∷ rest n
emit at (Err e) rest = fault e ∷ []

-- The text from the place `at` on, of which so many bytes are left of a piece.
unfoldable pub lexemes_from : ℕ → ℕ → Text → List Lexeme
lexemes_from at left [] = []
lexemes_from at (suc left) (b ∷ z) = lexemes_from (at + 1) left z
lexemes_from at zero (b ∷ z) = emit at (front at (b ∷ z)) (λ n. lexemes_from (at + 1) (n - 1) z)

-- the tokens of a text, up to the first fault
abbrev pub lexemes : Text → List Lexeme
lexemes z = lexemes_from 0 0 z
