-- The rule of the longest match, apart from how it is read.
--
-- Sources: "Lexical elements" of the protobuf language specification and of the text format
-- specification, on protobuf.dev.
use Rattle.std.specs.Prelude.{◌≡◌, ℕ, ◌+◌, ◌-◌, ◌^◌, ◌<◌, ◌≤◌, Bool, true, false, ◌&&◌, ◌||◌, if◌then◌else◌, ◌==◌, List, [], ◌∷◌, length, take, drop, slice_index, min, Some}
use Rattle.std.specs.List.{list_all}
use Rattle.protox_lex.specs.declared.class.Class.TheVariants as class
use Rattle.protox_lex.specs.declared.error.LexErrorKind.{LexErrorKind}
use Rattle.protox_lex.specs.declared.error.LexErrorKind.TheVariants as kinds
use Rattle.protox_lex.specs.declared.token.Sign.{Sign}
use Rattle.protox_lex.specs.Class.{Text, is_in, past}
use Rattle.protox_lex.specs.Token.{Token, ident, int, float, str, sign, comment, Piece, gap, token, Lexeme, token_at, fault_at}
use Rattle.protox_lex.specs.Lex.{is_hex, value, sign_of, char_len}
use Rattle.protox_lex.specs.Spelled.{IsDigits, IsDecimals, IsFloat, is_quote, NoEscape, IsString, Contents, Unmarked, IsBlock, is_line}

-- All these bytes are one piece.
pub data IsPiece (z : Text) : Piece → Type 0 where
  -- white space, `//` to the end of the line, `/*` to `*/`
  white_space : 0 < length z → list_all (is_in class.Blank) z ≡ true → IsPiece z gap
  line_comment : (y : Text) → z ≡ 47 ∷ 47 ∷ y → list_all (is_in class.Line) y ≡ true → IsPiece z gap
  block_comment : (y : Text) → z ≡ 47 ∷ 42 ∷ y → IsBlock y → IsPiece z gap
  -- `#` to the end of the line
  hash_comment : (y : Text) → z ≡ 35 ∷ y → is_line y ≡ true → IsPiece z (token comment)
  -- ident = letter { letter | decimalDigit | "_" }; a letter may be "_"
  word : (b : ℕ) (y : Text) → z ≡ b ∷ y → is_in class.Letter b ≡ true
      → list_all (is_in class.Word) y ≡ true → IsPiece z (token (ident z))
  -- hexLit = "0" ( "x" | "X" ) hexDigit { hexDigit }
  hexadecimal : (x : ℕ) (y : Text) → z ≡ 48 ∷ x ∷ y → (x == 120 || x == 88) ≡ true
      → IsDigits class.Hex y → IsPiece z (token (int (value 16 y)))
  -- octalLit = "0" { octalDigit }
  octal : (y : Text) → z ≡ 48 ∷ y → list_all (is_in class.Octal) y ≡ true
      → IsPiece z (token (int (value 8 z)))
  -- decimalLit = ( "1" … "9" ) { decimalDigit }
  decimal : IsDecimals z → (slice_index z 0 == 48) ≡ false → IsPiece z (token (int (value 10 z)))
  floating : IsFloat z → IsPiece z (token (float z))
  quoted : (quote : ℕ) (y s : Text) → z ≡ quote ∷ y → is_quote quote ≡ true → IsString quote y s
      → IsPiece z (token (str s))
  one_sign : (b : ℕ) (s : Sign) → z ≡ b ∷ [] → sign_of b ≡ Some s → IsPiece z (token (sign s))

-- the first n bytes are this piece, and no more of them are a piece
pub record IsLongest (z : Text) (p : Piece) (n : ℕ) : Type 0 where
  pub within : n ≤ length z
  pub is : IsPiece (take n z) p
  pub longest : (m : ℕ) (q : Piece) → n < m → m ≤ length z → IsPiece (take m z) q → ⊥

-- `/*` begins a block comment, also one that has no end
abbrev pub opens_block : Text → Bool
opens_block z = slice_index z 0 == 47 && slice_index z 1 == 42

-- An integer has at most 64 bits, and no letter follows it directly. A `/` that begins a block
-- comment is no sign.
abbrev pub IsAlone : Text → Piece → ℕ → Type 0
IsAlone z gap n = Unit {0}
IsAlone z (token (ident s)) n = Unit {0}
IsAlone z (token (int i)) n = (i < 2 ^ 64) × (is_in class.Letter (slice_index z n) ≡ false)
IsAlone z (token (float s)) n = Unit {0}
IsAlone z (token (str s)) n = Unit {0}
IsAlone z (token (sign s)) n = opens_block z ≡ false
IsAlone z (token comment) n = Unit {0}

-- the bytes of an integer before its digits: `0x`, or the `0` of an octal number
abbrev pub prefix_of : Text → ℕ → ℕ
prefix_of z n = if is_hex z then 2 else if slice_index z 0 == 48 then min n 2 - 1 else 0

-- a string whose contents end at a rest that begins with no quote
abbrev pub Unclosed : Text → (Text → Type 0) → Type 0
Unclosed z P = (quote : ℕ) × (y : Text) × (rest : Text) × (z ≡ quote ∷ y) × (is_quote quote ≡ true)
    × Contents quote rest y × P rest

-- a block comment whose text ends at no `*/`
abbrev pub Unended : Text → (Text → Type 0) → Type 0
Unended z P = (y : Text) × (z ≡ 47 ∷ 42 ∷ y) × P y

-- Why a text can't be cut further, and the bytes at fault. A backslash that begins no escape is at
-- fault with the bytes of the form behind it that means nothing, if there is one.
abbrev pub IsFault : Text → LexErrorKind → ℕ → ℕ → Type 0
IsFault z kinds.InvalidToken start end = (start ≡ 0)
    × (end ≡ min (length z) (char_len (slice_index z 0))) × (is_quote (slice_index z 0) ≡ false)
    × ((m : ℕ) (p : Piece) → IsPiece (take m z) p → ⊥)
IsFault z kinds.NoSpaceBetweenIntAndIdent start end = (i : ℕ) × (n : ℕ)
    × IsLongest z (token (int i)) n × (is_in class.Letter (slice_index z n) ≡ true)
    × (start ≡ prefix_of z n) × (end ≡ past class.Alphabetic z (n + 1))
IsFault z kinds.IntegerOutOfRange start end = (i : ℕ) × (n : ℕ) × IsLongest z (token (int i)) n
    × (is_in class.Letter (slice_index z n) ≡ false) × (2 ^ 64 ≤ i) × (start ≡ 0) × (end ≡ n)
IsFault z kinds.UnterminatedString start end =
    Unclosed z (λ rest. (rest ≡ []) × (start ≡ 0) × (end ≡ length z))
IsFault z kinds.InvalidStringEscape start end =
    Unclosed z (λ rest. (w : Text) × (n : ℕ) × (rest ≡ 92 ∷ w) × NoEscape w n
    × (start + length rest ≡ length z) × (end ≡ start + 1 + n))
IsFault z kinds.InvalidStringCharacters start end =
    Unclosed z (λ rest. (b : ℕ) × (w : Text) × (rest ≡ b ∷ w) × ((b == 10 || b == 0) ≡ true)
    × (start + length rest ≡ length z) × (end ≡ start + 1))
IsFault z kinds.NestedBlockComment start end =
    Unended z (λ y. (k : ℕ) × Unmarked y k × (slice_index y k ≡ 47) × (slice_index y (k + 1) ≡ 42)
    × (start ≡ k + 2) × (end ≡ k + 4))
IsFault z kinds.UnterminatedComment start end =
    Unended z (λ y. Unmarked y (length y) × (start ≡ 0) × (end ≡ length z))
IsFault z kinds.HashCommentOutsideTextFormat start end = ⊥
IsFault z kinds.FloatSuffixOutsideTextFormat start end = ⊥

-- The text, which begins at the place `at`, is these pieces, each the longest that begins where it
-- stands: the tokens, with gaps between them, and at the first fault no more.
pub data Lexes : ℕ → Text → List Lexeme → Type 0 where
  ends : {at : ℕ} → Lexes at [] []
  passes : {at : ℕ} {z : Text} {ts : List Lexeme} (n : ℕ) → IsLongest z gap n
      → Lexes (at + n) (drop n z) ts → Lexes at z ts
  takes : {at : ℕ} {z : Text} {ts : List Lexeme} (t : Token) (n : ℕ) → IsLongest z (token t) n
      → IsAlone z (token t) n → Lexes (at + n) (drop n z) ts
      → Lexes at z (token_at at (at + n) t ∷ ts)
  stops : {at : ℕ} {z : Text} (kind : LexErrorKind) (start end : ℕ) → 0 < length z
      → IsFault z kind start end → Lexes at z (fault_at kind (at + start) (at + end) ∷ [])
