-- The longest match by a test of what all bytes of a text are: what the proofs compute with.
use Rattle.std.specs.Prelude.{◌≡◌, ◌≢◌, ℕ, ◌+◌, ◌^◌, ◌<◌, ◌≤◌, Bool, true, false, ◌&&◌, ◌||◌, if◌then◌else◌, ◌==◌, [], ◌∷◌, length, take, drop, slice_index, min, Option, Some, None, option_map}
use Rattle.std.specs.List.{list_all}
use Rattle.protox_lex.specs.declared.class.Class.TheVariants as class
use Rattle.protox_lex.specs.declared.error.LexErrorKind.{LexErrorKind}
use Rattle.protox_lex.specs.declared.error.LexErrorKind.TheVariants as kinds
use Rattle.protox_lex.specs.Class.{Text, is_in, past}
use Rattle.protox_lex.specs.Token.{Token, ident, int, float, str, sign, comment, Piece, gap, token}
use Rattle.protox_lex.specs.Spelled.{is_empty, is_line}
use Rattle.protox_lex.specs.Longest.{prefix_of}
use Rattle.protox_lex.specs.Lex.{is_hex, begins_number, value, is_float, past_fraction, past_suffix, contents_len, comment_len, fault_len, escape, sign_of, char_len}

abbrev pub if_all : {A : Type 0} → Bool → A → Option A
if_all b x = if b then Some x else None

-- all these bytes are a float: digits with a point or an exponent, or with a suffix
abbrev pub is_float_text : Text → Bool
is_float_text z =
    let whole = past class.Digit z 0 in
    let end = past_fraction z whole in
    is_float z whole end && (past_suffix z end == length z)

-- the number that all these bytes write
abbrev pub int_of : Text → Option ℕ
int_of z =
    if slice_index z 0 == 48 then if_all (list_all (is_in class.Octal) z) (value 8 z)
    else if_all (list_all (is_in class.Digit) z) (value 10 z)

abbrev pub number_of : Text → Option Token
number_of z =
    if is_hex z then if_all (list_all (is_in class.Hex) (drop 2 z)) (int (value 16 (drop 2 z)))
    else if is_float_text z then Some (float z)
    else option_map int (int_of z)

-- the contents, where these bytes are contents and the closing quote
abbrev pub literal_of : ℕ → Text → Option Text
literal_of quote y = if_all ((contents_len quote y + 1 == length y) && slice_index y (contents_len quote y) == quote) (take (contents_len quote y) y)

-- a block comment behind its first two bytes: no mark before the last two, which are `*/`
abbrev pub is_block : Text → Bool
is_block y = (comment_len y + 2 == length y) && slice_index y (comment_len y) == 42

-- what all these bytes are, if they are one piece
unfoldable pub piece_of : Text → Option Piece
piece_of [] = None
piece_of (b ∷ z) =
    if is_in class.Blank b then if_all (list_all (is_in class.Blank) z) gap
    else if is_in class.Letter b then if_all (list_all (is_in class.Word) z) (token (ident (b ∷ z)))
    else if begins_number (b ∷ z) then option_map token (number_of (b ∷ z))
    else if b == 34 || b == 39 then option_map (λ s. token (str s)) (literal_of b z)
    else if b == 35 then if_all (is_line z) (token comment)
    else if b == 47 && slice_index z 0 == 47 then if_all (list_all (is_in class.Line) (drop 1 z)) gap
    else if b == 47 && slice_index z 0 == 42 then if_all (is_block (drop 1 z)) gap
    else if is_empty z then option_map (λ s. token (sign s)) (sign_of b)
    else None

-- the first n bytes are this piece, and no more of them are a piece
pub record IsCut (z : Text) (p : Piece) (n : ℕ) : Type 0 where
  pub moves : 1 ≤ n
  pub within : n ≤ length z
  pub is : piece_of (take n z) ≡ Some p
  pub longest : (m : ℕ) → n < m → m ≤ length z → piece_of (take m z) ≡ None

-- a string whose contents end at no closing quote
abbrev pub Unclosed : Text → (Text → ℕ → Type 0) → Type 0
Unclosed z P = (quote : ℕ) × (y : Text) × (z ≡ quote ∷ y) × ((quote == 34 || quote == 39) ≡ true) × P y (contents_len quote y) × (slice_index y (contents_len quote y) ≢ quote)

-- A block comment whose text ends at no `*/`.
abbrev pub Unended : Text → (Text → ℕ → Type 0) → Type 0
Unended z P = (y : Text) × (z ≡ 47 ∷ 42 ∷ y) × P y (comment_len y)

-- Why a text can't be cut further, and the bytes at fault. A string's contents end at the first byte that is neither plain nor in an escape.
abbrev pub IsFlaw : Text → LexErrorKind → ℕ → ℕ → Type 0
IsFlaw z kinds.InvalidToken start end = (start ≡ 0) × (end ≡ min (length z) (char_len (slice_index z 0))) × ((slice_index z 0 == 34 || slice_index z 0 == 39) ≡ false) × ((m : ℕ) → piece_of (take m z) ≡ None)
IsFlaw z kinds.NoSpaceBetweenIntAndIdent start end = (i : ℕ) × (n : ℕ) × IsCut z (token (int i)) n × (is_in class.Letter (slice_index z n) ≡ true) × (start ≡ prefix_of z n) × (end ≡ past class.Alphabetic z (n + 1))
IsFlaw z kinds.IntegerOutOfRange start end = (i : ℕ) × (n : ℕ) × IsCut z (token (int i)) n × (is_in class.Letter (slice_index z n) ≡ false) × (2 ^ 64 ≤ i) × (start ≡ 0) × (end ≡ n)
IsFlaw z kinds.UnterminatedString start end = Unclosed z (λ y n. (length y ≤ n) × (start ≡ 0) × (end ≡ length z))
IsFlaw z kinds.InvalidStringEscape start end = Unclosed z (λ y n. (slice_index y n ≡ 92) × (start ≡ n + 1) × (end ≡ n + 2 + fault_len (escape (drop (n + 1) y))))
IsFlaw z kinds.InvalidStringCharacters start end = Unclosed z (λ y n. (n < length y) × (slice_index y n ≢ 92) × (start ≡ n + 1) × (end ≡ n + 2))
IsFlaw z kinds.NestedBlockComment start end = Unended z (λ y n. (slice_index y n ≡ 47) × (start ≡ n + 2) × (end ≡ n + 4))
IsFlaw z kinds.UnterminatedComment start end = Unended z (λ y n. (length y ≤ n) × (start ≡ 0) × (end ≡ length z))
IsFlaw z kinds.HashCommentOutsideTextFormat start end = ⊥
IsFlaw z kinds.FloatSuffixOutsideTextFormat start end = ⊥
