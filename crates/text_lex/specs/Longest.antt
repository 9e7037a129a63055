-- The rule of the longest match, apart from how it is read. Digits, floats, strings and their
-- escapes are those of a source.
--
-- Source: "Lexical elements" of the text format specification, on protobuf.dev.
use Rattle.std.specs.Prelude.{◌≡◌, ℕ, ◌+◌, ◌-◌, ◌<◌, ◌≤◌, Bool, true, false, ◌||◌, ◌==◌, List, [], ◌∷◌, length, take, drop, slice_index, min}
use Rattle.std.specs.List.{list_all}
use Rattle.protox_lex.specs.Class.{Text, is_in, past}
use Rattle.protox_lex.specs.Lex.{char_len}
use Rattle.protox_lex.specs.Longest as source
use Rattle.protox_lex.specs.Spelled.{IsDigits, IsDecLit, IsFloat, is_quote, IsString, is_line}
use Rattle.protox_lex.specs.declared.class.Class.TheVariants as class
use Rattle.protox_lex.specs.declared.error.LexErrorKind.{LexErrorKind}
use Rattle.protox_lex.specs.declared.error.LexErrorKind.TheVariants as kinds
use Rattle.protox_lex.specs.declared.span.Span.{Span}
use Rattle.text_lex.specs.declared.lexer.LexError.{LexError}
use Rattle.text_lex.specs.declared.lexer.LexError.TheVariants as errors
use Rattle.text_lex.specs.declared.token.Radix.{Radix}
use Rattle.text_lex.specs.declared.token.Radix.TheVariants as radix
use Rattle.text_lex.specs.Token.{Token, ident, int, float, str, sign, Piece, gap, token, Lexeme, token_at, fault}

-- . - { } [ ] < > , : ; /
abbrev pub is_sign : ℕ → Bool
is_sign b =
    b == 46 || (b == 45 || (b == 123
    || (b == 125 || (b == 91 || (b == 93
    || (b == 60 || (b == 62 || (b == 44 || (b == 58 || (b == 59 || b == 47))))))))))

-- All these bytes are one piece.
pub data IsPiece (z : Text) : Piece → Type 0 where
  -- white space, `#` to the end of the line
  white_space : 0 < length z → list_all (is_in class.Blank) z ≡ true → IsPiece z gap
  comment : (y : Text) → z ≡ 35 ∷ y → is_line y ≡ true → IsPiece z gap
  -- IDENT = letter { letter | dec }; a letter may be "_"
  word : (b : ℕ) (y : Text) → z ≡ b ∷ y → is_in class.Letter b ≡ true
      → list_all (is_in class.Word) y ≡ true → IsPiece z (token (ident z))
  -- hex_lit = "0" ( "x" | "X" ) hex { hex }
  hexadecimal : (x : ℕ) (y : Text) → z ≡ 48 ∷ x ∷ y → (x == 120 || x == 88) ≡ true
      → IsDigits class.Hex y → IsPiece z (token (int radix.Hexadecimal y))
  -- oct_lit = "0" oct { oct }
  octal : (y : Text) → z ≡ 48 ∷ y → IsDigits class.Octal y → IsPiece z (token (int radix.Octal y))
  -- dec_lit = "0" | ( "1" … "9" ) { dec }
  decimal : IsDecLit z → IsPiece z (token (int radix.Decimal z))
  floating : IsFloat z → IsPiece z (token (float z))
  quoted : (quote : ℕ) (y s : Text) → z ≡ quote ∷ y → is_quote quote ≡ true → IsString quote y s
      → IsPiece z (token (str s))
  one_sign : (b : ℕ) → z ≡ b ∷ [] → is_sign b ≡ true → IsPiece z (token (sign b))

-- the first n bytes are this piece, and no more of them are a piece
pub record IsLongest (z : Text) (p : Piece) (n : ℕ) : Type 0 where
  pub within : n ≤ length z
  pub is : IsPiece (take n z) p
  pub longest : (m : ℕ) (q : Piece) → n < m → m ≤ length z → IsPiece (take m z) q → ⊥

-- No letter follows an integer directly.
abbrev pub IsAlone : Text → Piece → ℕ → Type 0
IsAlone z gap n = Unit {0}
IsAlone z (token (ident s)) n = Unit {0}
IsAlone z (token (int r d)) n = is_in class.Letter (slice_index z n) ≡ false
IsAlone z (token (float s)) n = Unit {0}
IsAlone z (token (str s)) n = Unit {0}
IsAlone z (token (sign b)) n = Unit {0}

-- the bytes of a text from one place to another, where the text begins at the place `at`
abbrev pub from_to : ℕ → ℕ → ℕ → Span
from_to at start end = record { start = at + start; end = at + end }

-- a source that begins so has this fault there
abbrev pub HasFault : LexErrorKind → ℕ → Text → Span → Type 0
HasFault kind at z s = (start : ℕ) × (end : ℕ) × source.IsFault z kind start end
    × (s ≡ from_to at start end)

-- Why a text, which begins at the place `at`, can't be cut further, and the bytes at fault. A
-- string has the faults that it has in a source.
abbrev pub IsFault : ℕ → Text → LexError → Type 0
IsFault at z (errors.InvalidToken s) =
    (s ≡ from_to at 0 (min (length z) (char_len (slice_index z 0))))
    × (is_quote (slice_index z 0) ≡ false) × ((m : ℕ) (p : Piece) → IsPiece (take m z) p → ⊥)
IsFault at z (errors.NoSpaceBetweenIntAndIdent s) =
    (r : Radix) × (d : Text) × (n : ℕ) × IsLongest z (token (int r d)) n
    × (is_in class.Letter (slice_index z n) ≡ true)
    × (s ≡ from_to at (n - length d) (past class.Alphabetic z (n + 1)))
IsFault at z (errors.InvalidStringCharacters s) = HasFault kinds.InvalidStringCharacters at z s
IsFault at z (errors.InvalidStringEscape s) = HasFault kinds.InvalidStringEscape at z s
IsFault at z errors.UnterminatedString = source.Unclosed z (λ rest. rest ≡ [])

-- The text, which begins at the place `at`, is these pieces, each the longest that begins where it
-- stands: the tokens, with gaps between them, and at the first fault no more.
pub data Lexes : ℕ → Text → List Lexeme → Type 0 where
  ends : {at : ℕ} → Lexes at [] []
  passes : {at : ℕ} {z : Text} {ts : List Lexeme} (n : ℕ) → IsLongest z gap n
      → Lexes (at + n) (drop n z) ts → Lexes at z ts
  takes : {at : ℕ} {z : Text} {ts : List Lexeme} (t : Token) (n : ℕ) → IsLongest z (token t) n
      → IsAlone z (token t) n → Lexes (at + n) (drop n z) ts
      → Lexes at z (token_at at (at + n) t ∷ ts)
  stops : {at : ℕ} {z : Text} (e : LexError) → 0 < length z → IsFault at z e
      → Lexes at z (fault e ∷ [])
