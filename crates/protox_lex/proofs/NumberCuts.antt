-- The number at the front is the longest that begins there.
use Rattle.std.proofs.Common.{◌≡◌, ℕ, zero, suc, ◌+◌, ◌-◌, ◌^◌, ◌≤◌, ◌<◌, Bool, true, false, cond, eqb, ◌&&◌, ◌||◌, Some, None, [], ◌∷◌, take, length, ap, sym, subst, ◌∙◌, arith, refl, eq-eqb, ◌⊎◌, inl, inr, min}
use Rattle.std.specs.Prelude.{slice_index, ◌==◌, option_map}
use Rattle.std.specs.List.{prefix_len, list_all}
use Rattle.std.proofs.lemmas.Bool.{cases_lt, lt-ltb, le-ltb, eqb-true, and_parts}
use Rattle.protox_lex.specs.declared.class.Class.TheVariants as class
use Rattle.protox_lex.specs.Class.{Text, is_in}
use Rattle.protox_lex.specs.Token.{Token, int, float, token}
use Rattle.protox_lex.specs.Lex.{is_hex, begins_number, value, short, integer, octal, number}
use Rattle.protox_lex.specs.Longest.{prefix_of}
use Rattle.protox_lex.proofs.Pieces.{if_all, is_float_text, int_of, number_of, piece_of, IsCut}
use Rattle.protox_lex.proofs.Runs.{longest_run, longest_run_behind, GoesOn}
use Rattle.protox_lex.proofs.Cuts.{IsRight, not_same, IsOther}
use Rattle.protox_lex.proofs.Floats.{whole, floats, float_text_not, float_end, more_than_digits, float_text-take, no_integer, float_within, begins_with_point, point_floats, begins-take}

-- ---- what a piece that begins with a number is

pub piece_number : (b : ℕ) (y : Text) → IsOther b → begins_number (b ∷ y) ≡ true → piece_of (b ∷ y) ≡ option_map token (number_of (b ∷ y))
unfolding piece_of
piece_number b y h begins = rw (h.blank, h.letter, begins) refl

begins-digit : (b : ℕ) (y : Text) → is_in class.Digit b ≡ true → begins_number (b ∷ y) ≡ true
begins-digit b y digit = rw digit refl

token_if : (c : Bool) (t : Token) → option_map token (if_all c t) ≡ if_all c (token t)
token_if true t = refl
token_if false t = refl

int_if : (c : Bool) (n : ℕ) → option_map token (option_map int (if_all c n)) ≡ if_all c (token (int n))
int_if true n = refl
int_if false n = refl

-- a shorter text is not hexadecimal either
not_hex-take : (z : Text) (m : ℕ) → is_hex z ≡ false → is_hex (take m z) ≡ false
not_hex-take z zero h = refl
not_hex-take [] (suc m) h = refl
not_hex-take (a ∷ z) (suc zero) h = elim (eqb a 48) as (λ v. (v && false) ≡ false) [ true ↦ refl | false ↦ refl ]
not_hex-take (a ∷ []) (suc (suc m)) h = h
not_hex-take (a ∷ b ∷ z) (suc (suc zero)) h = elim (eqb a 48) as (λ v. (v && ((eqb b 120 || eqb b 88) && false)) ≡ false) [ true ↦ elim (eqb b 120 || eqb b 88) as (λ v. (v && false) ≡ false) [ true ↦ refl | false ↦ refl ] | false ↦ refl ]
not_hex-take (a ∷ b ∷ []) (suc (suc (suc m))) h = h
not_hex-take (a ∷ b ∷ c ∷ z) (suc (suc (suc m))) h = h

size_cases : (v : ℕ) → ((v < 2 ^ 64) × (short v ≡ Some v)) ⊎ ((2 ^ 64 ≤ v) × (short v ≡ None))
size_cases v = elim (cases_lt v (2 ^ 64)) [ inl lt ↦ inl (lt, rw (lt-ltb v (2 ^ 64) lt) refl) | inr le ↦ inr (le, rw (le-ltb v (2 ^ 64) le) refl) ]

integer_right : (z : Text) (start end v : ℕ) → IsCut z (token (int v)) end → start ≡ prefix_of z end → IsRight z (integer z start end (short v))
integer_right z start end v l first = by (is_in class.Letter (slice_index z end)) refl (size_cases v) where
  by : (u : Bool) → is_in class.Letter (slice_index z end) ≡ u → ((v < 2 ^ 64) × (short v ≡ Some v)) ⊎ ((2 ^ 64 ≤ v) × (short v ≡ None)) → IsRight z (integer z start end (short v))
  by true letter s = rw letter (v, end, l, letter, first, refl)
  by false letter (inl fits) = rw (letter, fits.1) (l, (fits.0, letter))
  by false letter (inr long) = rw (letter, long.1) (v, end, l, letter, long.0, refl, refl)

module _ (b : ℕ) (y : Text) (other : IsOther b) (starts : is_in class.Digit b ≡ true) where
  module _ (hex : is_hex (b ∷ y) ≡ false) (plain : floats (b ∷ y) ≡ false) where
    long_octal : (b == 48) ≡ true → IsCut (b ∷ y) (token (int (value 8 (b ∷ take (prefix_len (is_in class.Octal) y) y)))) (suc (prefix_len (is_in class.Octal) y))
    long_octal nought = longest_run (is_in class.Octal) y (λ x. token (int (value 8 (b ∷ x)))) b goes where
      octal : is_in class.Octal b ≡ true
      octal = rw (eqb-true b 48 nought) refl

      goes : GoesOn (is_in class.Octal) y (λ x. token (int (value 8 (b ∷ x)))) (λ x. b ∷ x)
      goes m h = piece_number b (take m y) other (begins-digit b (take m y) starts)
          ∙ ap (option_map token) (rw (not_hex-take (b ∷ y) (suc m) hex, float_text_not (b ∷ y) (suc m) plain, nought, octal) refl) ∙ int_if (list_all (is_in class.Octal) (take m y)) (value 8 (b ∷ take m y))

    long_digits : (b == 48) ≡ false → IsCut (b ∷ y) (token (int (value 10 (b ∷ take (prefix_len (is_in class.Digit) y) y)))) (suc (prefix_len (is_in class.Digit) y))
    long_digits nought = longest_run (is_in class.Digit) y (λ x. token (int (value 10 (b ∷ x)))) b goes where
      goes : GoesOn (is_in class.Digit) y (λ x. token (int (value 10 (b ∷ x)))) (λ x. b ∷ x)
      goes m h = piece_number b (take m y) other (begins-digit b (take m y) starts)
          ∙ ap (option_map token) (rw (not_hex-take (b ∷ y) (suc m) hex, float_text_not (b ∷ y) (suc m) plain, nought, starts) refl) ∙ int_if (list_all (is_in class.Digit) (take m y)) (value 10 (b ∷ take m y))

  long_hex : (x c : ℕ) (w : Text) → y ≡ x ∷ c ∷ w → is_hex (b ∷ x ∷ c ∷ w) ≡ true
      → IsCut (b ∷ x ∷ c ∷ w) (token (int (value 16 (take (prefix_len (is_in class.Hex) (c ∷ w)) (c ∷ w))))) (suc (suc (prefix_len (is_in class.Hex) (c ∷ w))))
  long_hex x c w same hex = longest_run_behind (is_in class.Hex) (c ∷ w) (λ v. token (int (value 16 v))) b x goes where
    digit : is_in class.Hex c ≡ true
    digit = (and_parts (eqb x 120 || eqb x 88) (is_in class.Hex c) (and_parts (eqb b 48) _ hex).1).1

    goes : GoesOn (is_in class.Hex) (c ∷ w) (λ v. token (int (value 16 v))) (λ v. b ∷ x ∷ v)
    goes zero h = let some : 1 + prefix_len (is_in class.Hex) w ≤ 0 = rw digit at h in absurd (omega arith)
    goes (suc m) h = piece_number b (x ∷ c ∷ take m w) other (begins-digit b (x ∷ c ∷ take m w) starts) ∙ ap (option_map token) (rw hex refl) ∙ token_if (list_all (is_in class.Hex) (c ∷ take m w)) (int (value 16 (c ∷ take m w)))

decimal_text : (x : Text) (v : Bool) → is_hex x ≡ false → is_float_text x ≡ v → number_of x ≡ cond v (Some (float x)) (option_map int (int_of x))
decimal_text x v hex is = rw (hex, is) refl

float_longest : (b : ℕ) (y : Text) → IsOther b → begins_number (b ∷ y) ≡ true → is_hex (b ∷ y) ≡ false → floats (b ∷ y) ≡ true → IsCut (b ∷ y) (token (float (take (float_end (b ∷ y)) (b ∷ y)))) (float_end (b ∷ y))
float_longest b y other begins hex is = record {
  moves = omega (arith, some);
  within = float_within (b ∷ y);
  is = cut (float_end (b ∷ y)) (omega arith) (float_within (b ∷ y)) ∙ rw (eq-eqb (float_end (b ∷ y)) (float_end (b ∷ y)) refl) refl;
  longest = λ m lt le. cut m (omega arith) le ∙ rw (not_same (float_end (b ∷ y)) m lt, no_integer (b ∷ y) m (omega (arith, some)) le) refl;
} where
  some : whole (b ∷ y) < float_end (b ∷ y)
  some = more_than_digits (b ∷ y) is

  cut : (m : ℕ) → float_end (b ∷ y) ≤ m → m ≤ length (b ∷ y) → piece_of (take m (b ∷ y)) ≡ option_map token (cond (float_end (b ∷ y) == m) (Some (float (take m (b ∷ y)))) (option_map int (int_of (take m (b ∷ y)))))
  cut zero le within = absurd (omega (arith, some))
  cut (suc m) le within =
      piece_number b (take m y) other (begins-take b y m begins is le)
      ∙ ap (option_map token) (decimal_text (b ∷ take m y) (float_end (b ∷ y) == suc m) (not_hex-take (b ∷ y) (suc m) hex) (float_text-take (b ∷ y) (suc m) is le within))

-- ---- the number at the front

hex_right : (b : ℕ) (y : Text) → IsOther b → is_in class.Digit b ≡ true → is_hex (b ∷ y) ≡ true → IsRight (b ∷ y) (number (b ∷ y))
unfolding number
hex_right b [] other starts hex = absurd (let h = (and_parts (eqb b 48) false hex).1 in cc)
hex_right b (x ∷ []) other starts hex = absurd (let h = (and_parts (eqb x 120 || eqb x 88) false (and_parts (eqb b 48) _ hex).1).1 in cc)
hex_right b (x ∷ c ∷ w) other starts hex =
    let k = prefix_len (is_in class.Hex) (c ∷ w) in
    let two : 2 + k ≡ suc (suc k) = omega arith in
    let less : 2 + k - 2 ≡ k = omega arith in
    rw (hex, less) (integer_right (b ∷ x ∷ c ∷ w) 2 (2 + k) (value 16 (take k (c ∷ w))) (rw two (long_hex b (x ∷ c ∷ w) other starts x c w refl hex)) (rw hex refl))

module _ (b : ℕ) (y : Text) (other : IsOther b) (begins : begins_number (b ∷ y) ≡ true) where
  starts : floats (b ∷ y) ≡ false → is_in class.Digit b ≡ true
  starts plain = by (is_in class.Digit b) refl where
    by : (v : Bool) → is_in class.Digit b ≡ v → is_in class.Digit b ≡ true
    by true digit = digit
    by false none =
        let point = begins_with_point b y begins none in
        absurd (let wrong : true ≡ false = sym (point_floats y point.1) ∙ subst (λ c. floats (c ∷ y) ≡ false) point.0 plain in cc)

  octal_right : is_hex (b ∷ y) ≡ false → floats (b ∷ y) ≡ false → (b == 48) ≡ true → IsRight (b ∷ y) (octal (b ∷ y))
  unfolding octal
  octal_right hex plain nought =
      let k = prefix_len (is_in class.Octal) y in
      let one : 1 + k ≡ suc k = omega arith in
      rw one (integer_right (b ∷ y) (min (suc k) 2 - 1) (suc k) (value 8 (take (suc k) (b ∷ y))) (long_octal b y other (starts plain) hex plain nought) (rw (hex, nought) refl))

  decimal_right : is_hex (b ∷ y) ≡ false → floats (b ∷ y) ≡ false → (b == 48) ≡ false → IsRight (b ∷ y) (integer (b ∷ y) 0 (whole (b ∷ y)) (short (value 10 (take (whole (b ∷ y)) (b ∷ y)))))
  decimal_right hex plain nought =
      let k = prefix_len (is_in class.Digit) y in
      let digit = starts plain in
      let end : whole (b ∷ y) ≡ suc k = rw digit (omega arith) in
      rw end (integer_right (b ∷ y) 0 (suc k) (value 10 (take (suc k) (b ∷ y))) (long_digits b y other digit hex plain nought) (rw (hex, nought) refl))

  pub number_right : IsRight (b ∷ y) (number (b ∷ y))
  unfolding number
  number_right = by (is_hex (b ∷ y)) refl (floats (b ∷ y)) refl (b == 48) refl where
    by : (h : Bool) → is_hex (b ∷ y) ≡ h → (f : Bool) → floats (b ∷ y) ≡ f → (o : Bool) → (b == 48) ≡ o → IsRight (b ∷ y) (number (b ∷ y))
    by true hex f _ o _ = hex_right b y other (rw (eqb-true b 48 (and_parts (eqb b 48) _ hex).0) refl) hex
    by false hex true is o _ = rw (hex, is) (float_longest b y other begins hex is, tt)
    by false hex false plain true nought = rw (hex, plain, nought) (octal_right hex plain nought)
    by false hex false plain false nought = rw (hex, plain, nought) (decimal_right hex plain nought)
