-- The piece at the front of a text, as it is cut.
use Rattle.std.specs.Prelude.{ℕ, zero, suc, ◌+◌, ◌-◌, ◌*◌, ◌^◌, Bool, not, ◌&&◌, ◌||◌, if◌then◌else◌, ◌==◌, nat_le, nat_lt, List, [], ◌∷◌, ◌++◌, length, take, drop, fold, slice_index, min, Option, Some, None, Result, Ok, Err}
use Rattle.std.specs.Char.{encode_utf8}
use Rattle.protox_lex.specs.declared.class.Class.TheVariants as class
use Rattle.protox_lex.specs.declared.error.LexErrorKind.{LexErrorKind}
use Rattle.protox_lex.specs.declared.error.LexErrorKind.TheVariants as kinds
use Rattle.protox_lex.specs.declared.escape.Meaning.{Meaning}
use Rattle.protox_lex.specs.declared.escape.Meaning.TheVariants as meaning
use Rattle.protox_lex.specs.declared.front.Flaw.{Flaw}
use Rattle.protox_lex.specs.declared.token.Sign.{Sign}
use Rattle.protox_lex.specs.declared.token.Sign.TheVariants as signs
use Rattle.protox_lex.specs.Class.{Text, is_in, past}
use Rattle.protox_lex.specs.Token.{ident, int, float, str, sign, comment, Piece, gap, token, Lexeme, token_at, fault_at}

-- a piece and its length, or why none is cut
abbrev pub Cut : Type 0
Cut = Result (Piece × ℕ) Flaw

abbrev pub flaw : LexErrorKind → ℕ → ℕ → Cut
flaw kind start end = Err (record { kind = kind; start = start; end = end })

-- ---- numbers

-- the value of hexadecimal and smaller digits
abbrev pub digit : ℕ → ℕ
digit b = if nat_le b 57 then b - 48 else if nat_le b 70 then b - 55 else b - 87

abbrev pub value : ℕ → Text → ℕ
value radix digits = fold (λ n b. radix * n + digit b) 0 digits

-- a number of at most 64 bits
abbrev pub short : ℕ → Option ℕ
short n = if nat_lt n (2 ^ 64) then Some n else None

abbrev pub begins_number : Text → Bool
begins_number z = is_in class.Digit (slice_index z 0)
    || (slice_index z 0 == 46 && is_in class.Digit (slice_index z 1))

abbrev pub is_hex : Text → Bool
is_hex z = slice_index z 0 == 48
    && ((slice_index z 1 == 120 || slice_index z 1 == 88) && is_in class.Hex (slice_index z 2))

abbrev pub is_exponent_mark : ℕ → Bool
is_exponent_mark b = b == 101 || b == 69

-- where the digits of the exponent at a place begin
abbrev pub exponent_digits : Text → ℕ → ℕ
exponent_digits z at = if slice_index z (at + 1) == 43 || slice_index z (at + 1) == 45 then at + 2
    else at + 1

-- the place behind the exponent at a place, or that place
unfoldable pub past_exponent : Text → ℕ → ℕ
past_exponent z at =
    if is_exponent_mark (slice_index z at)
    then (if is_in class.Digit (slice_index z (exponent_digits z at))
    then past class.Digit z (exponent_digits z at) else at) else at

-- the place behind the point, the decimals and the exponent at a place, or that place
unfoldable pub past_fraction : Text → ℕ → ℕ
past_fraction z at = if slice_index z at == 46 then past_exponent z (past class.Digit z (at + 1))
    else past_exponent z at

abbrev pub is_suffix : ℕ → Bool
is_suffix b = b == 102 || b == 70

abbrev pub past_suffix : Text → ℕ → ℕ
past_suffix z at = if is_suffix (slice_index z at) then at + 1 else at

abbrev pub float_to : Text → ℕ → Piece × ℕ
float_to z end = (token (float (take end z)), end)

abbrev pub sized : ℕ → Option ℕ → Cut
sized end (Some n) = Ok (token (int n), end)
sized end None = flaw kinds.IntegerOutOfRange 0 end

-- an integer up to `end`, whose digits begin at `start`
abbrev pub integer : Text → ℕ → ℕ → Option ℕ → Cut
integer z start end n = if is_in class.Letter (slice_index z end)
    then flaw kinds.NoSpaceBetweenIntAndIdent start (past class.Alphabetic z (end + 1))
    else sized end n

unfoldable pub octal : Text → Cut
octal z = integer z (min (past class.Octal z 1) 2 - 1) (past class.Octal z 1)
    (short (value 8 (take (past class.Octal z 1) z)))

-- the text is cut as a float: it has a point or an exponent, or a suffix behind a number that is
-- not octal
abbrev pub is_float : Text → ℕ → ℕ → Bool
is_float z whole end = nat_lt whole end
    || ((not (slice_index z 0 == 48) || whole == 1) && is_suffix (slice_index z end))

unfoldable pub number : Text → Cut
number z =
    if is_hex z then integer z 2 (past class.Hex z 2)
    (short (value 16 (take (past class.Hex z 2 - 2) (drop 2 z))))
    else if is_float z (past class.Digit z 0) (past_fraction z (past class.Digit z 0))
    then Ok (float_to z (past_suffix z (past_fraction z (past class.Digit z 0))))
    else if slice_index z 0 == 48 then octal z
    else integer z 0 (past class.Digit z 0) (short (value 10 (take (past class.Digit z 0) z)))

-- ---- strings

-- the byte of an escape of one letter
abbrev pub simple : ℕ → Option ℕ
simple b =
    if b == 97 then Some 7 else if b == 98 then Some 8 else if b == 116 then Some 9 else if b == 110
    then Some 10 else if b == 118 then Some 11
    else if b == 102 then Some 12 else if b == 114 then Some 13 else if b == 63
    || (b == 92 || (b == 39 || b == 34)) then Some b else None

abbrev pub Escaped : Type 0
Escaped = Result (Meaning × ℕ) ℕ

abbrev pub byte_of : Option ℕ → ℕ → Escaped
byte_of (Some n) len = if nat_lt n 256 then Ok (meaning.Byte n, len) else Err len
byte_of None len = Err len

abbrev pub is_scalar : ℕ → Bool
is_scalar n = nat_lt n 0xd800 || (nat_lt 0xdfff n && nat_lt n 0x110000)

abbrev pub scalar : ℕ → Option ℕ
scalar n = if is_scalar n then Some n else None

abbrev pub meant : Option ℕ → ℕ → Escaped
meant (Some c) len = Ok (meaning.Char c, len)
meant None len = Err len

abbrev pub char_of : Option ℕ → ℕ → Escaped
char_of (Some n) len = meant (scalar n) len
char_of None len = Err len

abbrev pub simple_of : Option ℕ → Escaped
simple_of (Some b) = Ok (meaning.Byte b, 1)
simple_of None = Err 0

unfoldable pub hex : Text → Escaped
hex y = if min (past class.Hex y 1) 3 == 1 then Err 0
    else byte_of (short (value 16 (take (min (past class.Hex y 1) 3 - 1) (drop 1 y))))
    (min (past class.Hex y 1) 3)

unfoldable pub octal_escape : Text → Escaped
octal_escape y = byte_of (short (value 8 (take (min (past class.Octal y 0) 3) y)))
    (min (past class.Octal y 0) 3)

unfoldable pub unicode : Text → ℕ → Escaped
unicode y digits = if nat_lt (past class.Hex y 1) (digits + 1) then Err 0
    else char_of (short (value 16 (take digits (drop 1 y)))) (digits + 1)

-- What stands behind a backslash, with its length. Refused with the length of what matches a form
-- and means nothing, or with 0.
unfoldable pub escape : Text → Escaped
escape y =
    let b = slice_index y 0 in
    if b == 120 || b == 88 then hex y
    else if b == 117 then unicode y 4
    else if b == 85 then unicode y 8
    else if is_in class.Octal b then octal_escape y
    else simple_of (simple b)

-- The first byte of a string's contents, or the escape that begins there, with its length. A
-- backslash that begins no escape stands for itself.
abbrev pub or_slash : Escaped → Meaning × ℕ
or_slash (Ok e) = (e.0, e.1 + 1)
or_slash (Err n) = (meaning.Byte 92, 1)

abbrev pub unit_of : Text → Meaning × ℕ
unit_of y = if slice_index y 0 == 92 then or_slash (escape (drop 1 y))
    else (meaning.Byte (slice_index y 0), 1)

abbrev pub bytes_of : Meaning → Text
bytes_of (meaning.Byte b) = b ∷ []
bytes_of (meaning.Char c) = encode_utf8 c

-- The bytes that the contents of a string mean, where so many bytes are left of an escape.
unfoldable pub unescaped_from : ℕ → Text → Text
unescaped_from left [] = []
unescaped_from (suc left) (b ∷ y) = unescaped_from left y
unescaped_from zero (b ∷ y) = bytes_of (unit_of (b ∷ y)).0
    ++ unescaped_from ((unit_of (b ∷ y)).1 - 1) y

abbrev pub unescaped : Text → Text
unescaped y = unescaped_from 0 y

abbrev pub is_plain : ℕ → ℕ → Bool
is_plain quote b = not (b == quote || (b == 92 || (b == 10 || b == 0)))

abbrev pub escape_len : Escaped → ℕ
escape_len (Ok e) = suc e.1
escape_len (Err n) = 0

-- the length of the plain byte or the escape at the front, or 0
abbrev pub unit_len : ℕ → Text → ℕ
unit_len quote [] = 0
unit_len quote (b ∷ y) = if b == 92 then escape_len (escape y) else if is_plain quote b then 1
    else 0

abbrev pub after_unit : ℕ → (ℕ → ℕ) → ℕ
after_unit zero rest = 0
after_unit (suc n) rest = suc (rest n)

-- How far the contents of a string reach, where so many bytes are left of an escape.
unfoldable pub contents_from : ℕ → ℕ → Text → ℕ
contents_from quote left [] = 0
contents_from quote (suc left) (b ∷ y) = suc (contents_from quote left y)
contents_from quote zero (b ∷ y) =
    after_unit (unit_len quote (b ∷ y)) (λ n. contents_from quote n y)

abbrev pub contents_len : ℕ → Text → ℕ
contents_len quote y = contents_from quote 0 y

abbrev pub fault_len : Escaped → ℕ
fault_len (Ok e) = 0
fault_len (Err n) = n

-- why the contents end at a place that has no closing quote
abbrev pub unclosed : Text → ℕ → Cut
unclosed y n =
    if nat_le (length y) n then flaw kinds.UnterminatedString 0 (length y + 1)
    else if slice_index y n == 92 then flaw kinds.InvalidStringEscape (n + 1)
    (n + 2 + fault_len (escape (drop (n + 1) y)))
    else flaw kinds.InvalidStringCharacters (n + 1) (n + 2)

abbrev pub closed : ℕ → Text → ℕ → Cut
closed quote y n = if slice_index y n == quote then Ok (token (str (take n y)), n + 2)
    else unclosed y n

-- the string whose opening quote stands before the text
unfoldable pub quoted : ℕ → Text → Cut
quoted quote y = closed quote y (contents_len quote y)

-- ---- comments and signs

-- `/*` or `*/` begins the text
abbrev pub is_comment_mark : ℕ → ℕ → Bool
is_comment_mark b c = (b == 42 && c == 47) || (b == 47 && c == 42)

-- how far the text of a block comment reaches
abbrev pub comment_len : Text → ℕ
comment_len [] = 0
comment_len (b ∷ z) = if is_comment_mark b (slice_index z 0) then 0 else suc (comment_len z)

abbrev pub past_comment_text : Text → ℕ
past_comment_text z = 2 + comment_len (drop 2 z)

unfoldable pub block_comment : Text → Cut
block_comment z =
    let at = past_comment_text z in
    if slice_index z at == 42 then Ok (gap, at + 2) else if slice_index z at == 47
    then flaw kinds.NestedBlockComment at (at + 2)
    else flaw kinds.UnterminatedComment 0 (length z)

-- the place behind the end of the first line
abbrev pub past_line : Text → ℕ
past_line z = if nat_lt (past class.Line z 1) (length z) then past class.Line z 1 + 1
    else past class.Line z 1

abbrev pub sign_of : ℕ → Option Sign
sign_of b =
    if b == 46 then Some signs.Dot else if b == 45 then Some signs.Minus else if b == 40
    then Some signs.LeftParen else if b == 41 then Some signs.RightParen
    else if b == 123 then Some signs.LeftBrace else if b == 125 then Some signs.RightBrace
    else if b == 91 then Some signs.LeftBracket else if b == 93 then Some signs.RightBracket
    else if b == 60 then Some signs.LeftAngleBracket else if b == 62
    then Some signs.RightAngleBracket else if b == 44 then Some signs.Comma else if b == 61
    then Some signs.Equals
    else if b == 58 then Some signs.Colon else if b == 59 then Some signs.Semicolon else if b == 47
    then Some signs.ForwardSlash else None

-- the length of the character that begins with a byte
abbrev pub char_len : ℕ → ℕ
char_len b = if nat_lt b 0xc0 then 1 else if nat_lt b 0xe0 then 2 else if nat_lt b 0xf0 then 3
    else 4

abbrev pub signed : Text → Option Sign → Cut
signed z (Some s) = Ok (token (sign s), 1)
signed z None = flaw kinds.InvalidToken 0 (min (length z) (char_len (slice_index z 0)))

abbrev pub word_to : Text → ℕ → Piece × ℕ
word_to z end = (token (ident (take end z)), end)

unfoldable pub front : Text → Cut
front z =
    let b = slice_index z 0 in
    if is_in class.Blank b then Ok (gap, past class.Blank z 1)
    else if is_in class.Letter b then Ok (word_to z (past class.Word z 1))
    else if begins_number z then number z
    else if b == 34 || b == 39 then quoted b (drop 1 z)
    else if b == 35 then Ok (token comment, past_line z)
    else if b == 47 && slice_index z 1 == 47 then Ok (gap, past class.Line z 2)
    else if b == 47 && slice_index z 1 == 42 then block_comment z
    else signed z (sign_of b)

-- ---- the whole text

abbrev pub emit : ℕ → Cut → (ℕ → List Lexeme) → List Lexeme
emit at (Ok (gap, n)) rest = rest n
emit at (Ok (token t, n)) rest = token_at at (at + n) t ∷ rest n
emit at (Err f) rest = fault_at f.kind (at + f.start) (at + f.end) ∷ []

-- The text from the place `at` on, of which so many bytes are left of a piece.
unfoldable pub lexemes_from : ℕ → ℕ → Text → List Lexeme
lexemes_from at left [] = []
lexemes_from at (suc left) (b ∷ z) = lexemes_from (at + 1) left z
lexemes_from at zero (b ∷ z) = emit at (front (b ∷ z)) (λ n. lexemes_from (at + 1) (n - 1) z)

-- the tokens of a source, up to the first fault
abbrev pub lexemes : Text → List Lexeme
lexemes z = lexemes_from 0 0 z
