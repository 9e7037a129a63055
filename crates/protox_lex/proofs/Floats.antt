-- What is cut from a float, and from a text that is none.
use Rattle.std.proofs.Common.{◌≡◌, ℕ, suc, ◌+◌, ◌≤◌, ◌<◌, Bool, true, false, cond, eqb, ltb, ◌&&◌, ◌||◌, not, None, [], ◌∷◌, take, get_or, length, ap, sym, subst, ◌∙◌, arith, refl, length-take, ◌⊎◌, inl, inr}
use Rattle.std.specs.Prelude.{slice_index, ◌==◌}
use Rattle.std.specs.List.{prefix_len, list_all}
use Rattle.std.proofs.lemmas.Bool.{cases_lt, lt-ltb, le-ltb, eqb-true, ltb-true, ltb-false, and_parts}
use Rattle.std.proofs.lemmas.List.{get_or_past, get_or-take}
use Rattle.protox_lex.specs.declared.class.Class.TheVariants as class
use Rattle.protox_lex.specs.Class.{Text, is_in, past}
use Rattle.protox_lex.specs.Lex.{begins_number, is_float, is_suffix, past_fraction, past_suffix}
use Rattle.protox_lex.proofs.Pieces.{is_float_text, int_of}
use Rattle.protox_lex.proofs.Runs.{more_than_run}
use Rattle.protox_lex.proofs.Numbers.{past-take, past_within, cut_off, fraction-take, fraction-least, fraction_within, fraction_cut, exponent-least, frac_point, first_run}

-- where the digits end, and the decimals and the exponent behind them
abbrev pub whole : Text → ℕ
whole z = past class.Digit z 0

abbrev pub end_of : Text → ℕ
end_of z = past_fraction z (whole z)

abbrev pub floats : Text → Bool
floats z = is_float z (whole z) (end_of z)

pub and_false : (b : Bool) → (b && false) ≡ false
and_false true = refl
and_false false = refl

pub both_false : (a b : Bool) → a ≡ false → (a && b) ≡ false
both_false a b e = rw e refl

-- a text that is not read as a float has no point and no exponent behind its digits
ends_whole : (z : Text) → floats z ≡ false → end_of z ≡ whole z
ends_whole z none = by (ltb (whole z) (end_of z)) refl where
  by : (u : Bool) → ltb (whole z) (end_of z) ≡ u → end_of z ≡ whole z
  by true less = absurd (let f = rw less at none in cc)
  by false le = omega (arith, ltb-false _ _ le, fraction-least z (whole z))

no_suffix : (z : Text) → floats z ≡ false → ((not (slice_index z 0 == 48) || whole z == 1) && is_suffix (slice_index z (whole z))) ≡ false
no_suffix z none = by (ltb (whole z) (end_of z)) refl where
  by : (u : Bool) → ltb (whole z) (end_of z) ≡ u → ((not (slice_index z 0 == 48) || whole z == 1) && is_suffix (slice_index z (whole z))) ≡ false
  by true less = absurd (let f = rw less at none in cc)
  by false le = ap (λ k. (not (slice_index z 0 == 48) || whole z == 1) && is_suffix (slice_index z k)) (sym (ends_whole z none)) ∙ (rw le at none)

pub floats_at : (x : Text) (k : ℕ) → whole x ≡ k → past_fraction x k ≡ k → floats x ≡ ((not (slice_index x 0 == 48) || k == 1) && is_suffix (slice_index x k))
floats_at x k w e =
    let l : ltb k k ≡ false = le-ltb k k (omega arith) in
    ap (λ j. is_float x j (past_fraction x j)) w ∙ ap (λ j. is_float x k j) e ∙ ap (λ b. b || ((not (slice_index x 0 == 48) || k == 1) && is_suffix (slice_index x k))) l

-- what is cut from a text that is not read as a float is not a float either
pub float_text_not : (z : Text) (m : ℕ) → floats z ≡ false → is_float_text (take m z) ≡ false
float_text_not z m none = both_false (floats (take m z)) _ (elim (cases_lt (whole z) m) [ inl lt ↦ behind lt | inr le ↦ inside le ]) where
  inside : m ≤ whole z → floats (take m z) ≡ false
  inside le =
      floats_at (take m z) m (past-take class.Digit z 0 m (omega arith) ∙ omega arith) (fraction_cut z m)
      ∙ ap (λ b. (not (slice_index (take m z) 0 == 48) || m == 1) && b) (ap is_suffix (cut_off z m m (omega arith))) ∙ and_false _

  behind : whole z < m → floats (take m z) ≡ false
  behind lt =
      let end = ends_whole z none in
      floats_at (take m z) (whole z) (past-take class.Digit z 0 m (omega arith) ∙ omega arith) (fraction-take z (whole z) m (omega arith) (omega (arith, end)) ∙ end)
      ∙ ap (λ b. (not (b == 48) || whole z == 1) && is_suffix (get_or (take m z) (whole z) 0)) (get_or-take m z 0 0 (omega arith))
      ∙ ap (λ b. (not (slice_index z 0 == 48) || whole z == 1) && is_suffix b) (get_or-take m z (whole z) 0 lt) ∙ no_suffix z none

-- ---- what is a float

-- where the float ends, with its suffix
abbrev pub float_end : Text → ℕ
float_end z = past_suffix z (end_of z)

pub suffix_cases : (z : Text) (at : ℕ) → (is_suffix (slice_index z at) ≡ true) × (past_suffix z at ≡ at + 1) ⊎ (is_suffix (slice_index z at) ≡ false) × (past_suffix z at ≡ at)
suffix_cases z at = by (is_suffix (slice_index z at)) refl where
  by : (v : Bool) → is_suffix (slice_index z at) ≡ v → (is_suffix (slice_index z at) ≡ true) × (past_suffix z at ≡ at + 1) ⊎ (is_suffix (slice_index z at) ≡ false) × (past_suffix z at ≡ at)
  by true h = inl (h, rw h refl)
  by false h = inr (h, rw h refl)

suffix-take : (z : Text) (at m : ℕ) → past_suffix z at ≤ m → past_suffix (take m z) at ≡ past_suffix z at
suffix-take z at m le = by (suffix_cases z at) where
  by : (is_suffix (slice_index z at) ≡ true) × (past_suffix z at ≡ at + 1) ⊎ (is_suffix (slice_index z at) ≡ false) × (past_suffix z at ≡ at) → past_suffix (take m z) at ≡ past_suffix z at
  by (inl s) = let less : at < m = omega (arith, s.1) in ap (λ b. cond (is_suffix b) (at + 1) at) (get_or-take m z at 0 less)
  by (inr s) = elim (cases_lt at m) [
    | inl less ↦ ap (λ b. cond (is_suffix b) (at + 1) at) (get_or-take m z at 0 less)
    | inr over ↦ ap (λ b. cond (is_suffix b) (at + 1) at) (cut_off z m at over) ∙ sym s.1
  ]

suffix-least : (z : Text) (at : ℕ) → at ≤ past_suffix z at
suffix-least z at = elim (suffix_cases z at) [ inl s ↦ omega (arith, s.1) | inr s ↦ omega (arith, s.1) ]

whole-least : (z : Text) → whole z ≤ float_end z
whole-least z = omega (arith, fraction-least z (whole z), suffix-least z (end_of z))

whole-take : (z : Text) (m : ℕ) → whole z ≤ m → whole (take m z) ≡ whole z
whole-take z m le = past-take class.Digit z 0 m (omega arith) ∙ omega arith

end-take : (z : Text) (m : ℕ) → end_of z ≤ m → end_of (take m z) ≡ end_of z
end-take z m le =
    let low : whole z ≤ m = omega (arith, fraction-least z (whole z)) in
    ap (past_fraction (take m z)) (whole-take z m low) ∙ fraction-take z (whole z) m low le

-- the digits of a float are not all of it
pub more_than_digits : (z : Text) → floats z ≡ true → whole z < float_end z
more_than_digits z is = by (ltb (whole z) (end_of z)) refl (suffix_cases z (end_of z)) where
  by : (u : Bool) → ltb (whole z) (end_of z) ≡ u → (is_suffix (slice_index z (end_of z)) ≡ true) × (past_suffix z (end_of z) ≡ end_of z + 1) ⊎ (is_suffix (slice_index z (end_of z)) ≡ false) × (past_suffix z (end_of z) ≡ end_of z) → whole z < float_end z
  by true less s = omega (arith, ltb-true _ _ less, suffix-least z (end_of z))
  by false le (inl s) = omega (arith, s.1, fraction-least z (whole z))
  by false le (inr s) = absurd (let f = rw (le, s.0, and_false (not (slice_index z 0 == 48) || whole z == 1)) at is in cc)

floats-take : (z : Text) (m : ℕ) → floats z ≡ true → float_end z ≤ m → floats (take m z) ≡ true
floats-take z m is le =
    let end : end_of z ≤ m = omega (arith, suffix-least z (end_of z)) in
    let low : whole z ≤ m = omega (arith, whole-least z) in
    ap (λ k. is_float (take m z) k (end_of (take m z))) (whole-take z m low) ∙ ap (λ k. is_float (take m z) (whole z) k) (end-take z m end) ∙ same end where
      same : end_of z ≤ m → is_float (take m z) (whole z) (end_of z) ≡ true
      same end = by (ltb (whole z) (end_of z)) refl (suffix_cases z (end_of z)) where
        by : (u : Bool) → ltb (whole z) (end_of z) ≡ u → (is_suffix (slice_index z (end_of z)) ≡ true) × (past_suffix z (end_of z) ≡ end_of z + 1) ⊎ (is_suffix (slice_index z (end_of z)) ≡ false) × (past_suffix z (end_of z) ≡ end_of z) → is_float (take m z) (whole z) (end_of z) ≡ true
        by true less s = rw less refl
        by false over (inl s) =
            ap (λ b. ltb (whole z) (end_of z) || ((not (b == 48) || whole z == 1) && is_suffix (get_or (take m z) (end_of z) 0))) (get_or-take m z 0 0 (omega (arith, s.1)))
            ∙ ap (λ b. ltb (whole z) (end_of z) || ((not (slice_index z 0 == 48) || whole z == 1) && is_suffix b)) (get_or-take m z (end_of z) 0 (omega (arith, s.1))) ∙ is
        by false over (inr s) = absurd (let f = rw (over, s.0, and_false (not (slice_index z 0 == 48) || whole z == 1)) at is in cc)

-- behind the first so many bytes of a float no cut is a float
pub float_text-take : (z : Text) (m : ℕ) → floats z ≡ true → float_end z ≤ m → m ≤ length z → is_float_text (take m z) ≡ (float_end z == m)
float_text-take z m is le within =
    let end : end_of z ≤ m = omega (arith, suffix-least z (end_of z)) in
    let same : past_suffix (take m z) (end_of (take m z)) ≡ float_end z = ap (past_suffix (take m z)) (end-take z m end) ∙ suffix-take z (end_of z) m le in
    let all : length (take m z) ≡ m = omega (arith, length-take m z) in
    rw (floats-take z m is le) (ap (λ k. k == length (take m z)) same ∙ ap (λ k. float_end z == k) all)

octal_is_digit : (b : ℕ) → is_in class.Octal b ≡ true → is_in class.Digit b ≡ true
octal_is_digit b h = grind arith

pub octals_are_digits : (x : Text) → list_all (is_in class.Octal) x ≡ true → list_all (is_in class.Digit) x ≡ true
octals_are_digits [] h = refl
octals_are_digits (b ∷ x) h =
    let parts = and_parts (is_in class.Octal b) (list_all (is_in class.Octal) x) h in
    rw (octal_is_digit b parts.0) (octals_are_digits x parts.1)

not_octals : (x : Text) → list_all (is_in class.Digit) x ≡ false → list_all (is_in class.Octal) x ≡ false
not_octals x none = by (list_all (is_in class.Octal) x) refl where
  by : (v : Bool) → list_all (is_in class.Octal) x ≡ v → list_all (is_in class.Octal) x ≡ false
  by true all = absurd (let wrong : true ≡ false = sym (octals_are_digits x all) ∙ none in cc)
  by false e = e

-- what is longer than the digits is no integer
pub no_integer : (z : Text) (m : ℕ) → whole z < m → m ≤ length z → int_of (take m z) ≡ None
no_integer z m more le =
    let digits : list_all (is_in class.Digit) (take m z) ≡ false = more_than_run (is_in class.Digit) z m (omega arith) le in
    by (slice_index (take m z) 0 == 48) refl digits where
      by : (v : Bool) → (slice_index (take m z) 0 == 48) ≡ v → list_all (is_in class.Digit) (take m z) ≡ false → int_of (take m z) ≡ None
      by true nought digits = rw (nought, not_octals (take m z) digits) refl
      by false nought digits = rw (nought, digits) refl

-- ---- where a float ends

pub float_within : (z : Text) → float_end z ≤ length z
float_within z = by (suffix_cases z (end_of z)) (fraction_within z (whole z) (past_within class.Digit z 0 (omega arith))) where
  by : (is_suffix (slice_index z (end_of z)) ≡ true) × (past_suffix z (end_of z) ≡ end_of z + 1) ⊎ (is_suffix (slice_index z (end_of z)) ≡ false) × (past_suffix z (end_of z) ≡ end_of z) → end_of z ≤ length z → float_end z ≤ length z
  by (inl s) le = elim (cases_lt (end_of z) (length z)) [
    | inl less ↦ omega (arith, s.1)
    | inr over ↦ absurd (let wrong : false ≡ true = sym (ap is_suffix (get_or_past z (end_of z) 0 over)) ∙ s.0 in cc)
  ]
  by (inr s) le = omega (arith, s.1)

-- a number that begins with no digit has a point there, and a digit behind it
pub begins_with_point : (b : ℕ) (y : Text) → begins_number (b ∷ y) ≡ true → is_in class.Digit b ≡ false → (b ≡ 46) × (is_in class.Digit (slice_index y 0) ≡ true)
begins_with_point b y begins none =
    let both = and_parts (eqb b 46) (is_in class.Digit (slice_index y 0)) (rw none at begins) in
    (eqb-true b 46 both.0, both.1)

pub point_end : (y : Text) → is_in class.Digit (slice_index y 0) ≡ true → 2 ≤ end_of (46 ∷ y)
point_end y digit =
    let run : 1 ≤ prefix_len (is_in class.Digit) y = first_run (is_in class.Digit) y refl digit in
    omega (arith, run, frac_point (46 ∷ y) 0 refl, exponent-least (46 ∷ y) (past class.Digit (46 ∷ y) 1))

pub point_floats : (y : Text) → is_in class.Digit (slice_index y 0) ≡ true → floats (46 ∷ y) ≡ true
point_floats y digit = rw (lt-ltb 0 (end_of (46 ∷ y)) (omega (arith, point_end y digit))) refl

-- a text that begins with a number does so where it is cut behind its float
pub begins-take : (b : ℕ) (y : Text) (m : ℕ) → begins_number (b ∷ y) ≡ true → floats (b ∷ y) ≡ true → float_end (b ∷ y) ≤ suc m → begins_number (b ∷ take m y) ≡ true
begins-take b y m begins is le = by (is_in class.Digit b) refl where
  by : (v : Bool) → is_in class.Digit b ≡ v → begins_number (b ∷ take m y) ≡ true
  by true digit = rw digit refl
  by false none =
      let point = begins_with_point b y begins none in
      let least : 2 ≤ end_of (46 ∷ y) = point_end y point.1 in
      let most : float_end (46 ∷ y) ≤ suc m = subst (λ c. float_end (c ∷ y) ≤ suc m) point.0 le in
      let second : is_in class.Digit (slice_index (take m y) 0) ≡ true = ap (is_in class.Digit) (get_or-take m y 0 0 (omega (arith, suffix-least (46 ∷ y) (end_of (46 ∷ y))))) ∙ point.1 in
      rw (point.0, second) refl
