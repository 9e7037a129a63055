-- Numbers, strings and comments as the language specification spells them.
--
-- Sources: "Lexical elements" of the protobuf language specification and of the text format
-- specification, on protobuf.dev.
use Rattle.std.specs.Prelude.{◌≡◌, ◌≢◌, ℕ, ◌+◌, ◌<◌, ◌≤◌, Bool, true, false, not, ◌||◌, ◌==◌, if◌then◌else◌, ◌⊎◌, List, [], ◌∷◌, ◌++◌, length, take, drop, slice_index}
use Rattle.std.specs.List.{Contains, list_all}
use Rattle.protox_lex.specs.declared.class.Class.{Class}
use Rattle.protox_lex.specs.declared.class.Class.TheVariants as class
use Rattle.protox_lex.specs.declared.escape.Meaning.{Meaning}
use Rattle.protox_lex.specs.declared.escape.Meaning.TheVariants as meaning
use Rattle.protox_lex.specs.Class.{Text, is_in}
use Rattle.protox_lex.specs.Lex.{value, is_exponent_mark, is_suffix, is_plain, is_comment_mark}

-- one or more bytes of the class
pub record IsDigits (c : Class) (z : Text) : Type 0 where
  pub some : 0 < length z
  pub digits : list_all (is_in c) z ≡ true

-- decimals = decimalDigit { decimalDigit }
abbrev pub IsDecimals : Text → Type 0
IsDecimals z = IsDigits class.Digit z

-- exponent = ( "e" | "E" ) [ "+" | "-" ] decimals
pub data IsExponent (z : Text) : Type 0 where
  unsigned : (e : ℕ) (d : Text) → z ≡ e ∷ d → is_exponent_mark e ≡ true → IsDecimals d
      → IsExponent z
  signed : (e s : ℕ) (d : Text) → z ≡ e ∷ s ∷ d → is_exponent_mark e ≡ true → (s == 43 || s == 45)
      ≡ true → IsDecimals d → IsExponent z

-- what stands in brackets may be left out
abbrev pub Maybe : (Text → Type 0) → Text → Type 0
Maybe P z = (z ≡ []) ⊎ P z

-- floatLit = decimals "." [ decimals ] [ exponent ] | decimals exponent | "." decimals [ exponent ]
pub data IsFloatLit (z : Text) : Type 0 where
  with_point : (a b e : Text) → z ≡ a ++ (46 ∷ (b ++ e)) → IsDecimals a → Maybe IsDecimals b
      → Maybe IsExponent e → IsFloatLit z
  with_exponent : (a e : Text) → z ≡ a ++ e → IsDecimals a → IsExponent e → IsFloatLit z
  from_point : (b e : Text) → z ≡ 46 ∷ (b ++ e) → IsDecimals b → Maybe IsExponent e → IsFloatLit z

-- dec_lit = "0" | dec_nonzero { dec }
pub record IsDecLit (z : Text) : Type 0 where
  pub decimals : IsDecimals z
  pub plain : (not (slice_index z 0 == 48) || length z == 1) ≡ true

-- FLOAT = float_lit [ "f" | "F" ] | dec_lit ( "f" | "F" ); only text format has the suffix
pub data IsFloat (z : Text) : Type 0 where
  plain : IsFloatLit z → IsFloat z
  with_suffix : (x : Text) (s : ℕ) → z ≡ x ++ (s ∷ []) → is_suffix s ≡ true → IsFloatLit x
      ⊎ IsDecLit x → IsFloat z

-- `"` or `'`
abbrev pub is_quote : ℕ → Bool
is_quote q = q == 34 || q == 39

-- the letter of an escape, and the byte that it stands for
abbrev pub letters : List (ℕ × ℕ)
letters =
    (97, 7) ∷ (98, 8) ∷ (102, 12) ∷ (110, 10) ∷ (114, 13) ∷ (116, 9) ∷ (118, 11) ∷ (63, 63)
    ∷ (92, 92) ∷ (39, 39) ∷ (34, 34) ∷ []

-- All these bytes have the form of an escape, behind its backslash, that writes this.
pub data HasForm (z : Text) : Meaning → Type 0 where
  -- charEscape = "a" | "b" | "f" | "n" | "r" | "t" | "v" | "?" | "\" | "'" | '"'
  letter : (b c : ℕ) → z ≡ b ∷ [] → Contains {X = ℕ × ℕ} letters (b, c) → HasForm z (meaning.Byte c)
  -- hexEscape = ( "x" | "X" ) hexDigit [ hexDigit ]
  hexadecimal : (x : ℕ) (y : Text) → z ≡ x ∷ y → (x == 120 || x == 88) ≡ true → IsDigits class.Hex y
      → length y ≤ 2 → HasForm z (meaning.Byte (value 16 y))
  -- octEscape = octalDigit [ octalDigit [ octalDigit ] ]
  octal : IsDigits class.Octal z → length z ≤ 3 → HasForm z (meaning.Byte (value 8 z))
  -- unicodeEscape = "u" and four of hexDigit
  unicode : (y : Text) → z ≡ 117 ∷ y → IsDigits class.Hex y → length y ≡ 4
      → HasForm z (meaning.Char (value 16 y))
  -- unicodeLongEscape = "U" and eight of hexDigit
  long_unicode : (y : Text) → z ≡ 85 ∷ y → IsDigits class.Hex y → length y ≡ 8
      → HasForm z (meaning.Char (value 16 y))

-- a byte has eight bits; a character is no surrogate, and none comes behind U+10FFFF
abbrev pub IsMeant : Meaning → Type 0
IsMeant (meaning.Byte b) = b < 256
IsMeant (meaning.Char c) = (c < 0xd800) ⊎ ((0xdfff < c) × (c < 0x110000))

-- the first n bytes have the form of an escape, and no more of them have one
pub record IsLongestForm (y : Text) (n : ℕ) (m : Meaning) : Type 0 where
  pub within : n ≤ length y
  pub form : HasForm (take n y) m
  pub longest : (k : ℕ) (q : Meaning) → n < k → k ≤ length y → HasForm (take k y) q → ⊥

-- the first n bytes behind a backslash are an escape, of this meaning
abbrev pub IsEscape : Text → ℕ → Meaning → Type 0
IsEscape y n m = IsLongestForm y n m × IsMeant m

-- a backslash before the text begins no escape: no form is there, or one of n bytes that means
-- nothing
pub data NoEscape (y : Text) : ℕ → Type 0 where
  no_form : ((k : ℕ) (q : Meaning) → k ≤ length y → HasForm (take k y) q → ⊥) → NoEscape y 0
  no_meaning : (n : ℕ) (m : Meaning) → IsLongestForm y n m → (IsMeant m → ⊥) → NoEscape y n

-- The text is contents of a string up to this rest, that is, plain bytes and escapes.
-- charValue = any byte but the quote, a backslash, a line's end and NUL, or an escape
pub data Contents (quote : ℕ) (rest : Text) : Text → Type 0 where
  ends : (y : Text) → y ≡ rest → Contents quote rest y
  plain_byte : (b : ℕ) (y : Text) → is_plain quote b ≡ true → Contents quote rest y
      → Contents quote rest (b ∷ y)
  escaped : (y : Text) (n : ℕ) (m : Meaning) → IsEscape y n m → Contents quote rest (drop n y)
      → Contents quote rest (92 ∷ y)

-- each backslash begins an escape
pub data IsEscaped : Text → Type 0 where
  nothing : IsEscaped []
  other_byte : (b : ℕ) (y : Text) → b ≢ 92 → IsEscaped y → IsEscaped (b ∷ y)
  one_escape : (y : Text) (n : ℕ) (m : Meaning) → IsEscape y n m → IsEscaped (drop n y)
      → IsEscaped (92 ∷ y)

-- strLit, behind its opening quote: contents and the quote
pub record IsString (quote : ℕ) (y : Text) (s : Text) : Type 0 where
  pub closes : y ≡ s ++ (quote ∷ [])
  pub contents : Contents quote (quote ∷ []) y

-- neither `/*` nor `*/` begins at one of the first k bytes
abbrev pub Unmarked : Text → ℕ → Type 0
Unmarked y k = (j : ℕ) → j < k → is_comment_mark (slice_index y j) (slice_index y (j + 1)) ≡ false

-- A block comment, behind `/*`: text, in which no comment begins or ends, and `*/`.
abbrev pub IsBlock : Text → Type 0
IsBlock y = (s : Text) × (y ≡ s ++ (42 ∷ 47 ∷ [])) × Unmarked y (length s)

abbrev pub is_empty : Text → Bool
is_empty [] = true
is_empty (b ∷ z) = false

-- all bytes of a line, and its end if it has one
abbrev pub is_line : Text → Bool
is_line [] = true
is_line (b ∷ z) = if is_in class.Line b then is_line z else is_empty z
