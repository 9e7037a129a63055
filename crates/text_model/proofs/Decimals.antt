-- Decimal digits and identifiers before a text that does not lengthen them.
use Rattle.std.proofs.Common.{◌≡◌, ℕ, zero, suc, ◌+◌, ◌<◌, ◌^◌, Bool, true, false, [], ◌∷◌, ◌++◌, length, take, decimal, Ok, refl, ap, sym, subst, ◌∙◌, arith, get_or}
use Rattle.std.specs.Prelude.{◌&&◌, ◌||◌, not, ◌==◌, slice_index, nat_le, if◌then◌else◌}
use Rattle.std.specs.List.{list_all, prefix_len}
use Rattle.std.specs.Char.{is_ascii_uppercase, is_ascii_lowercase, is_ascii_digit}
use Rattle.std.specs.Str.Parse.{AllDigits}
use Rattle.std.proofs.lemmas.Bool.{leb-true, eqb-true, le-leb, le-ltb, false_from_ne_true, ne_eqb, not-false, true≢false, and_from, and_parts, or_parts, agree_below, agree_below_at}
use Rattle.std.proofs.lemmas.Fmt.{decimal_is_IsNumeral, first_decimal, decimal_digit}
use Rattle.std.proofs.lemmas.Str.Parse.{digit_from_value}
use Rattle.protox_lex.specs.Class.{Text, is_in, past}
use Rattle.protox_lex.specs.Lex as source
use Rattle.protox_lex.specs.Lex.{number, integer, octal, past_fraction, past_exponent, short, value, sized}
use Rattle.protox_lex.specs.Token as sources
use Rattle.protox_lex.specs.declared.class.Class.TheVariants as class
use Rattle.protox_lex.specs.declared.error.LexErrorKind.TheVariants as kinds
use Rattle.protox_lex.proofs.FloatSpelling.{run_front}
use Rattle.protox_lex.proofs.Values.{is_short}
use Rattle.text_lex.specs.Lex.{front, as_text, int_of}
use Rattle.text_lex.specs.Token.{int, token}
use Rattle.text_lex.specs.declared.token.Radix.TheVariants as radix
use Rattle.text_lex.proofs.Integers.{int_decimal}
use Rattle.text_model.proofs.Leaves.{apart_by, ends_number}
use Rattle.text_model.proofs.Singles.{decimal_value}

-- bytes of one class are not of another
pub blank_small : (b : ℕ) → is_in class.Blank b ≡ true → b < 33
blank_small b h = by (b == 32) refl where
  by : (t : Bool) → (b == 32) ≡ t → b < 33
  by true e = omega (arith, eqb-true b 32 e)
  by false e = let k = and_parts (nat_le 9 b) (nat_le b 13) (ap (λ t. t || (nat_le 9 b && nat_le b 13)) (sym e) ∙ h) in omega (arith, leb-true b 13 k.1)

no_blank_letter : agree_below (λ b. is_in class.Blank b && is_in class.Letter b) (λ b. false) 33 ≡ true
no_blank_letter = refl

-- a letter is no white space
pub letter_solid : (b : ℕ) → is_in class.Letter b ≡ true → is_in class.Blank b ≡ false
letter_solid b h = by (is_in class.Blank b) refl where
  by : (t : Bool) → is_in class.Blank b ≡ t → t ≡ false
  by false e = refl
  by true e = absurd (let x : true ≡ false = sym (and_from (is_in class.Blank b) (is_in class.Letter b) e h) ∙ agree_below_at (λ b. is_in class.Blank b && is_in class.Letter b) (λ b. false) 33 b no_blank_letter (blank_small b e) in cc)

digit_small : (b : ℕ) → is_in class.Digit b ≡ true → b < 58
digit_small b h = omega (arith, leb-true b 57 (and_parts (nat_le 48 b) (nat_le b 57) h).1)

no_digit_other : agree_below (λ b. is_in class.Digit b && ((is_in class.Blank b || is_in class.Letter b) || not (is_in class.Word b))) (λ b. false) 58 ≡ true
no_digit_other = refl

-- a digit is no white space and no letter, and may stand in a word
record IsDigit (b : ℕ) : Type 0 where
  blank : is_in class.Blank b ≡ false
  letter : is_in class.Letter b ≡ false
  word : is_in class.Word b ≡ true

digit_is : (b : ℕ) → is_in class.Digit b ≡ true → IsDigit b
digit_is b h =
    let other = agree_below_at (λ b. is_in class.Digit b && ((is_in class.Blank b || is_in class.Letter b) || not (is_in class.Word b))) (λ b. false) 58 b no_digit_other (digit_small b h) in
    let none : ((is_in class.Blank b || is_in class.Letter b) || not (is_in class.Word b)) ≡ false = ap (λ t. t && ((is_in class.Blank b || is_in class.Letter b) || not (is_in class.Word b))) (sym h) ∙ other in
    let p = or_parts (is_in class.Blank b || is_in class.Letter b) (not (is_in class.Word b)) none in
    let q = or_parts (is_in class.Blank b) (is_in class.Letter b) p.0 in
    record { blank = q.0; letter = q.1; word = not-false (is_in class.Word b) p.1 }

-- a letter is no digit
pub letter_no_digit : (b : ℕ) → is_in class.Letter b ≡ true → is_in class.Digit b ≡ false
letter_no_digit b h = false_from_ne_true (is_in class.Digit b) (λ e. true≢false (sym h ∙ (digit_is b e).letter))

all_digits : (ds : Text) → AllDigits 10 ds → list_all (is_in class.Digit) ds ≡ true
all_digits [] h = refl
all_digits (c ∷ ds) h =
    let k = digit_from_value c h.0 in
    and_from (is_in class.Digit c) (list_all (is_in class.Digit) ds) (and_from (nat_le 48 c) (nat_le c 57) (le-leb 48 c k.0) (le-leb c 57 k.1)) (all_digits ds h.1)

-- what ends a number is no byte of such a test
ends_by : (P : ℕ → Bool) → ((c : ℕ) → P c ≡ true → (is_in class.Word c || c == 46) ≡ true) → P 0 ≡ false → (d z : Text) → ends_number z ≡ true → P (slice_index (d ++ z) (length d)) ≡ false
ends_by P sub none [] [] h = none
ends_by P sub none [] (c ∷ z) h = by (P c) refl where
  by : (t : Bool) → P c ≡ t → t ≡ false
  by false e = refl
  by true e = absurd (let x : false ≡ true = sym (ap not (sub c e)) ∙ h in cc)
ends_by P sub none (x ∷ d) z h = ends_by P sub none d z h

is_one : (k : ℕ) → (is_in class.Word k || k == 46) ≡ true → (c : ℕ) → (c == k) ≡ true → (is_in class.Word c || c == 46) ≡ true
is_one k h c e = ap (λ c. is_in class.Word c || c == 46) (eqb-true c k e) ∙ h

in_word : (u l d x : Bool) → ((u || l) || x) ≡ true → (((d || u) || l) || x) ≡ true
in_word u l true x h = refl
in_word true l false x h = refl
in_word false true false x h = refl
in_word false false false x h = h

letter_in_word : (c : ℕ) → is_in class.Letter c ≡ true → (is_in class.Word c || c == 46) ≡ true
letter_in_word c h = ap (λ t. t || c == 46) (in_word (is_ascii_uppercase c) (is_ascii_lowercase c) (is_ascii_digit c) (c == 95) h)

digit_in_word : (c : ℕ) → is_in class.Digit c ≡ true → (is_in class.Word c || c == 46) ≡ true
digit_in_word c h = ap (λ t. t || c == 46) (digit_is c h).word

octal_in_word : (c : ℕ) → is_in class.Octal c ≡ true → (is_in class.Word c || c == 46) ≡ true
octal_in_word c h =
    let p = and_parts (nat_le 48 c) (nat_le c 55) h in
    digit_in_word c (and_from (nat_le 48 c) (nat_le c 57) p.0 (le-leb c 57 (let k = leb-true c 55 p.1 in omega arith)))

ended : (P : ℕ → Bool) → ((c : ℕ) → P c ≡ true → (is_in class.Word c || c == 46) ≡ true) → P 0 ≡ false → (z : Text) → ends_number z ≡ true → prefix_len P z ≡ 0
ended P sub none [] h = refl
ended P sub none (c ∷ z) h = rw (ends_by P sub none [] (c ∷ z) h) refl

-- digits that do not begin with a zero
number_is : (b : ℕ) (d z : Text) → (b == 48) ≡ false → past class.Digit ((b ∷ d) ++ z) 0 ≡ length (b ∷ d) → ends_number z ≡ true
    → number ((b ∷ d) ++ z) ≡ integer ((b ∷ d) ++ z) 0 (length (b ∷ d)) (short (value 10 (take (length (b ∷ d)) ((b ∷ d) ++ z))))
unfolding number past_fraction past_exponent
number_is b d z first run h =
    let point = ends_by (λ c. c == 46) (is_one 46 refl) refl (b ∷ d) z h in
    let small = ends_by (λ c. c == 101) (is_one 101 refl) refl (b ∷ d) z h in
    let large = ends_by (λ c. c == 69) (is_one 69 refl) refl (b ∷ d) z h in
    let f = ends_by (λ c. c == 102) (is_one 102 refl) refl (b ∷ d) z h in
    let g = ends_by (λ c. c == 70) (is_one 70 refl) refl (b ∷ d) z h in
    rw (first, run, point, small, large, le-ltb (length (b ∷ d)) (length (b ∷ d)) (omega arith), f, g) refl

integer_is : (z : Text) (n : ℕ) (v : ℕ) → is_in class.Letter (slice_index z n) ≡ false → v < 2 ^ 64 → integer z 0 n (short v) ≡ Ok (sources.token (sources.int v), n)
integer_is z n v letter small =
    ap (λ t. if t then source.flaw kinds.NoSpaceBetweenIntAndIdent 0 (past class.Alphabetic z (n + 1)) else sized n (short v)) letter
    ∙ ap (sized n) (is_short v small)

digits_front : (at b : ℕ) (d z : Text) → (b == 48) ≡ false → list_all (is_in class.Digit) (b ∷ d) ≡ true → value 10 (b ∷ d) < 2 ^ 64 → ends_number z ≡ true → front at ((b ∷ d) ++ z) ≡ Ok (token (int radix.Decimal (b ∷ d)), length (b ∷ d))
unfolding front source.front
digits_front at b d z first all small h =
    let here = (and_parts (is_in class.Digit b) (list_all (is_in class.Digit) d) all).0 in
    let is = digit_is b here in
    let run : past class.Digit ((b ∷ d) ++ z) 0 ≡ length (b ∷ d) = zero_on (run_front (is_in class.Digit) (b ∷ d) z all (ended (is_in class.Digit) digit_in_word refl z h)) in
    let front_text = take_all (b ∷ d) z in
    let read : number ((b ∷ d) ++ z) ≡ Ok (sources.token (sources.int (value 10 (b ∷ d))), length (b ∷ d)) =
    number_is b d z first run h ∙ ap (λ t. integer ((b ∷ d) ++ z) 0 (length (b ∷ d)) (short (value 10 t))) front_text
    ∙ integer_is ((b ∷ d) ++ z) (length (b ∷ d)) (value 10 (b ∷ d)) (ends_by (is_in class.Letter) letter_in_word refl (b ∷ d) z h) small in
    rw (apart_by (is_in class.Digit) b 47 refl here, apart_by (is_in class.Digit) b 35 refl here, is.blank, is.letter, here)
    (ap (as_text at ((b ∷ d) ++ z)) read
    ∙ ap (λ t. Ok (token (int_of t), length (b ∷ d))) front_text
    ∙ ap (λ t. Ok (token t, length (b ∷ d))) (int_decimal (b ∷ d) first)) where
      zero_on : prefix_len (is_in class.Digit) ((b ∷ d) ++ z) ≡ length (b ∷ d) → past class.Digit ((b ∷ d) ++ z) 0 ≡ length (b ∷ d)
      zero_on e = let x : 0 + prefix_len (is_in class.Digit) ((b ∷ d) ++ z) ≡ length (b ∷ d) = omega (arith, e) in x

      take_all : (w z : Text) → take (length w) (w ++ z) ≡ w
      take_all [] z = refl
      take_all (b ∷ w) z = ap (λ r. b ∷ r) (take_all w z)

zero_number : (z : Text) → ends_number z ≡ true → number (48 ∷ z) ≡ Ok (sources.token (sources.int 0), 1)
unfolding number past_fraction past_exponent octal
zero_number z h =
    let x = ends_by (λ c. c == 120) (is_one 120 refl) refl [] z h in
    let y = ends_by (λ c. c == 88) (is_one 88 refl) refl [] z h in
    let point = ends_by (λ c. c == 46) (is_one 46 refl) refl [] z h in
    let small = ends_by (λ c. c == 101) (is_one 101 refl) refl [] z h in
    let large = ends_by (λ c. c == 69) (is_one 69 refl) refl [] z h in
    let f = ends_by (λ c. c == 102) (is_one 102 refl) refl [] z h in
    let g = ends_by (λ c. c == 70) (is_one 70 refl) refl [] z h in
    let letter = ends_by (is_in class.Letter) letter_in_word refl [] z h in
    let digits : past class.Digit (48 ∷ z) 0 ≡ 1 = let e : 0 + (1 + prefix_len (is_in class.Digit) z) ≡ 1 = omega (arith, ended (is_in class.Digit) digit_in_word refl z h) in e in
    let octals : past class.Octal (48 ∷ z) 1 ≡ 1 = let e : 1 + prefix_len (is_in class.Octal) z ≡ 1 = omega (arith, ended (is_in class.Octal) octal_in_word refl z h) in e in
    rw (x, y, digits, point, small, large, f, g, octals, letter) refl

zero_front : (at : ℕ) (z : Text) → ends_number z ≡ true → front at (48 ∷ z) ≡ Ok (token (int radix.Decimal (48 ∷ [])), 1)
unfolding front source.front
zero_front at z h = ap (as_text at (48 ∷ z)) (zero_number z h)

-- the digits of a number
pub decimal_front : (at n : ℕ) (z : Text) → n < 2 ^ 64 → ends_number z ≡ true → front at (decimal n ++ z) ≡ Ok (token (int radix.Decimal (decimal n)), length (decimal n))
decimal_front at zero z small h = rw (decimal_digit 0 (omega arith)) (zero_front at z h)
decimal_front at (suc n) z small h = by (decimal (suc n)) refl where
  by : (ds : Text) → decimal (suc n) ≡ ds → front at (ds ++ z) ≡ Ok (token (int radix.Decimal ds), length ds)
  by [] e = absurd (let k = (decimal_is_IsNumeral (suc n) small).0.0 in omega (arith, ap length e))
  by (b ∷ d) e =
      digits_front at b d z
      (ne_eqb b 48 (λ t. let k = first_decimal (suc n) (omega arith) small in omega (arith, ap (λ ds. get_or ds 0 0) e, t)))
      (all_digits (b ∷ d) (subst (AllDigits 10) e (decimal_is_IsNumeral (suc n) small).0.1))
      (let k = decimal_value (suc n) small in omega (arith, ap (value 10) e)) h
