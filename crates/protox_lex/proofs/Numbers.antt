-- Where a number ends does not depend on what is cut off behind its end.
use Rattle.std.proofs.Common.{◌≡◌, ℕ, zero, suc, ◌+◌, ◌-◌, ◌≤◌, ◌<◌, Bool, true, false, cond, ◌||◌, [], ◌∷◌, take, drop, get_or, length, ap, sym, ◌∙◌, arith, refl, min, length-take, length-drop, inl, inr}
use Rattle.std.specs.Prelude.{slice_index, ◌==◌}
use Rattle.std.specs.List.{prefix_len}
use Rattle.std.proofs.lemmas.Bool.{cases_lt, eqb-true}
use Rattle.std.proofs.lemmas.List.{get_or_past, get_or-take, get_or-drop}
use Rattle.std.proofs.lemmas.List.Sums.{prefix_len-le-length}
use Rattle.protox_lex.specs.declared.class.Class.{Class}
use Rattle.protox_lex.specs.declared.class.Class.TheVariants as class
use Rattle.protox_lex.specs.Class.{Text, is_in, past}
use Rattle.protox_lex.specs.Lex.{is_exponent_mark, exponent_digits, past_exponent, past_fraction}
use Rattle.protox_lex.proofs.Alike.{prefix_len-take}

drop-take : (at m : ℕ) (z : Text) → at ≤ m → drop at (take m z) ≡ take (m - at) (drop at z)
drop-take zero m z le = let e : m - 0 ≡ m = omega arith in rw e refl
drop-take (suc at) zero z le = absurd (omega arith)
drop-take (suc at) (suc m) [] le = by (suc m - suc at) where
  by : (k : ℕ) → ◌≡◌ {A = Text} [] (take k [])
  by zero = refl
  by (suc k) = refl
drop-take (suc at) (suc m) (b ∷ z) le = let e : suc m - suc at ≡ m - at = omega arith in rw e (drop-take at m z (omega arith))

pub past-take : (c : Class) (z : Text) (at m : ℕ) → at ≤ m → past c (take m z) at ≡ min m (past c z at)
past-take c z at m le =
    let f : prefix_len (is_in c) (drop at (take m z)) ≡ min (m - at) (prefix_len (is_in c) (drop at z)) = ap (prefix_len (is_in c)) (drop-take at m z le) ∙ prefix_len-take (is_in c) (drop at z) (m - at) in
    omega (arith, f)

-- behind a cut there is no byte
pub cut_off : (z : Text) (m k : ℕ) → m ≤ k → get_or (take m z) k 0 ≡ 0
cut_off z m k le = get_or_past (take m z) k 0 (omega (arith, length-take m z))

pub exponent-least : (z : Text) (at : ℕ) → at ≤ past_exponent z at
unfolding past_exponent
exponent-least z at = by (is_exponent_mark (slice_index z at)) refl (is_in class.Digit (slice_index z (exponent_digits z at))) refl (slice_index z (at + 1) == 43 || slice_index z (at + 1) == 45) refl where
  by : (u : Bool) → is_exponent_mark (slice_index z at) ≡ u → (v : Bool) → is_in class.Digit (slice_index z (exponent_digits z at)) ≡ v → (w : Bool) → (slice_index z (at + 1) == 43 || slice_index z (at + 1) == 45) ≡ w → at ≤ past_exponent z at
  by false mark v _ w _ = rw mark (omega arith)
  by true mark false digit w _ = rw (mark, digit) (omega arith)
  by true mark true digit true sign = rw (mark, digit, sign) (omega arith)
  by true mark true digit false sign = rw (mark, digit, sign) (omega arith)

-- the ways in which an exponent is read
pub exp_no_mark : (z : Text) (at : ℕ) → is_exponent_mark (slice_index z at) ≡ false → past_exponent z at ≡ at
unfolding past_exponent
exp_no_mark z at mark = rw mark refl

pub exp_no_digit : (z : Text) (at : ℕ) → is_in class.Digit (slice_index z (exponent_digits z at)) ≡ false → past_exponent z at ≡ at
unfolding past_exponent
exp_no_digit z at digit = by (is_exponent_mark (slice_index z at)) refl where
  by : (u : Bool) → is_exponent_mark (slice_index z at) ≡ u → past_exponent z at ≡ at
  by true mark = rw (mark, digit) refl
  by false mark = rw mark refl

pub exp_digit : (z : Text) (at : ℕ) → is_exponent_mark (slice_index z at) ≡ true → is_in class.Digit (slice_index z (exponent_digits z at)) ≡ true → past_exponent z at ≡ past class.Digit z (exponent_digits z at)
unfolding past_exponent
exp_digit z at mark digit = rw (mark, digit) refl

pub first_run : (p : ℕ → Bool) (w : Text) → p 0 ≡ false → p (get_or w 0 0) ≡ true → 1 ≤ prefix_len p w
first_run p [] none is = absurd (cc)
first_run p (b ∷ w) none is = rw is (omega arith)

digit_past : (z : Text) (e : ℕ) → is_in class.Digit (slice_index z e) ≡ true → e < past class.Digit z e
digit_past z e is =
    let at : e + 0 ≡ e = omega arith in
    let same : get_or (drop e z) 0 0 ≡ get_or z e 0 = get_or-drop e z 0 0 ∙ ap (λ i. get_or z i 0) at in
    omega (arith, first_run (is_in class.Digit) (drop e z) refl (ap (is_in class.Digit) same ∙ is))

digits-least : (z : Text) (at : ℕ) → at + 1 ≤ exponent_digits z at
digits-least z at = by (slice_index z (at + 1) == 43 || slice_index z (at + 1) == 45) refl where
  by : (w : Bool) → (slice_index z (at + 1) == 43 || slice_index z (at + 1) == 45) ≡ w → at + 1 ≤ exponent_digits z at
  by true sign = rw sign (omega arith)
  by false sign = rw sign (omega arith)

-- nothing of an exponent stands where the text ends
exponent_cut : (z : Text) (m k : ℕ) → m ≤ k → past_exponent (take m z) k ≡ k
exponent_cut z m k le = exp_no_mark (take m z) k (ap is_exponent_mark (cut_off z m k le))

-- the digits begin at the same place where the sign is not cut off
digits-take : (z : Text) (at m : ℕ) → at + 1 < m → exponent_digits (take m z) at ≡ exponent_digits z at
digits-take z at m lt = ap (λ b. cond (b == 43 || b == 45) (at + 2) (at + 1)) (get_or-take m z (at + 1) 0 lt)

digit_cut : (z : Text) (m k : ℕ) → m ≤ k → is_in class.Digit (get_or (take m z) k 0) ≡ false
digit_cut z m k le = ap (is_in class.Digit) (cut_off z m k le)

no_digit-take : (z : Text) (m k : ℕ) → is_in class.Digit (get_or z k 0) ≡ false → is_in class.Digit (get_or (take m z) k 0) ≡ false
no_digit-take z m k none = elim (cases_lt k m) [ inl lt ↦ ap (is_in class.Digit) (get_or-take m z k 0 lt) ∙ none | inr le ↦ digit_cut z m k le ]

-- where the mark stays, and the sign behind it
exponent_inside : (z : Text) (at m : ℕ) → at + 1 < m → is_exponent_mark (slice_index z at) ≡ true → past_exponent z at ≤ m → past_exponent (take m z) at ≡ past_exponent z at
exponent_inside z at m lt mark le = by (is_in class.Digit (slice_index z (exponent_digits z at))) refl where
  mark_stays : is_exponent_mark (get_or (take m z) at 0) ≡ true
  mark_stays = ap is_exponent_mark (get_or-take m z at 0 (omega arith)) ∙ mark

  at_digits : (k : ℕ) → k ≡ exponent_digits z at → exponent_digits (take m z) at ≡ k
  at_digits k e = digits-take z at m lt ∙ sym e

  by : (v : Bool) → is_in class.Digit (slice_index z (exponent_digits z at)) ≡ v → past_exponent (take m z) at ≡ past_exponent z at
  by false none =
      exp_no_digit (take m z) at (ap (λ k. is_in class.Digit (get_or (take m z) k 0)) (digits-take z at m lt) ∙ no_digit-take z m (exponent_digits z at) none) ∙ sym (exp_no_digit z at none)
  by true digit =
      let whole : past_exponent z at ≡ past class.Digit z (exponent_digits z at) = exp_digit z at mark digit in
      let inside : exponent_digits z at < m = omega (arith, digit_past z (exponent_digits z at) digit, whole) in
      let stays : is_in class.Digit (get_or (take m z) (exponent_digits (take m z) at) 0) ≡ true =
      ap (λ k. is_in class.Digit (get_or (take m z) k 0)) (digits-take z at m lt) ∙ ap (is_in class.Digit) (get_or-take m z (exponent_digits z at) 0 inside) ∙ digit in
      let cut : past class.Digit (take m z) (exponent_digits z at) ≡ past class.Digit z (exponent_digits z at) = past-take class.Digit z (exponent_digits z at) m (omega arith) ∙ omega (arith, whole) in
      exp_digit (take m z) at mark_stays stays ∙ ap (past class.Digit (take m z)) (digits-take z at m lt) ∙ cut ∙ sym whole

-- where the mark is the last byte that stays
exponent_last : (z : Text) (at m : ℕ) → m ≡ at + 1 → past_exponent z at ≤ m → past_exponent (take m z) at ≡ past_exponent z at
exponent_last z at m e le =
    exp_no_digit (take m z) at (digit_cut z m (exponent_digits (take m z) at) (omega (arith, digits-least (take m z) at))) ∙ sym (by (is_exponent_mark (slice_index z at)) refl (is_in class.Digit (slice_index z (exponent_digits z at))) refl) where
      by : (u : Bool) → is_exponent_mark (slice_index z at) ≡ u → (v : Bool) → is_in class.Digit (slice_index z (exponent_digits z at)) ≡ v → past_exponent z at ≡ at
      by false mark v _ = exp_no_mark z at mark
      by true mark false digit = exp_no_digit z at digit
      by true mark true digit = absurd (omega (arith, exp_digit z at mark digit, digit_past z (exponent_digits z at) digit, digits-least z at))

pub exponent-take : (z : Text) (at m : ℕ) → at ≤ m → past_exponent z at ≤ m → past_exponent (take m z) at ≡ past_exponent z at
exponent-take z at m low le = elim (cases_lt at m) [
  | inl lt ↦ by (is_exponent_mark (slice_index z at)) refl lt
  | inr over ↦ exponent_cut z m at over ∙ omega (arith, exponent-least z at)
] where
  by : (u : Bool) → is_exponent_mark (slice_index z at) ≡ u → at < m → past_exponent (take m z) at ≡ past_exponent z at
  by false mark lt = exp_no_mark (take m z) at (ap is_exponent_mark (get_or-take m z at 0 lt) ∙ mark) ∙ sym (exp_no_mark z at mark)
  by true mark lt = elim (cases_lt (at + 1) m) [ inl more ↦ exponent_inside z at m more mark le | inr last ↦ exponent_last z at m (omega arith) le ]

pub frac_point : (z : Text) (at : ℕ) → (slice_index z at == 46) ≡ true → past_fraction z at ≡ past_exponent z (past class.Digit z (at + 1))
unfolding past_fraction
frac_point z at point = rw point refl

pub frac_none : (z : Text) (at : ℕ) → (slice_index z at == 46) ≡ false → past_fraction z at ≡ past_exponent z at
unfolding past_fraction
frac_none z at point = rw point refl

pub fraction-least : (z : Text) (at : ℕ) → at ≤ past_fraction z at
fraction-least z at = by (slice_index z at == 46) refl where
  by : (u : Bool) → (slice_index z at == 46) ≡ u → at ≤ past_fraction z at
  by true point = omega (arith, frac_point z at point, exponent-least z (past class.Digit z (at + 1)))
  by false none = omega (arith, frac_none z at none, exponent-least z at)

pub fraction-take : (z : Text) (at m : ℕ) → at ≤ m → past_fraction z at ≤ m → past_fraction (take m z) at ≡ past_fraction z at
fraction-take z at m low le = by (slice_index z at == 46) refl where
  by : (u : Bool) → (slice_index z at == 46) ≡ u → past_fraction (take m z) at ≡ past_fraction z at
  by true point =
      let d = past class.Digit z (at + 1) in
      let whole : past_fraction z at ≡ past_exponent z d = frac_point z at point in
      let inside : at < m = omega (arith, whole, exponent-least z d) in
      let cut : past class.Digit (take m z) (at + 1) ≡ d = past-take class.Digit z (at + 1) m (omega arith) ∙ omega (arith, whole, exponent-least z d) in
      frac_point (take m z) at (ap (λ b. b == 46) (get_or-take m z at 0 inside) ∙ point) ∙ ap (past_exponent (take m z)) cut ∙ exponent-take z d m (omega (arith, whole, exponent-least z d)) (omega (arith, whole)) ∙ sym whole
  by false none =
      let none_cut : (get_or (take m z) at 0 == 46) ≡ false = elim (cases_lt at m) [ inl lt ↦ ap (λ b. b == 46) (get_or-take m z at 0 lt) ∙ none | inr over ↦ ap (λ b. b == 46) (cut_off z m at over) ] in
      frac_none (take m z) at none_cut ∙ exponent-take z at m low (omega (arith, frac_none z at none)) ∙ sym (frac_none z at none)

pub fraction_cut : (z : Text) (m : ℕ) → past_fraction (take m z) m ≡ m
fraction_cut z m = frac_none (take m z) m (ap (λ b. b == 46) (cut_off z m m (omega arith))) ∙ exponent_cut z m m (omega arith)

-- ---- a number ends within the text

-- a byte that is there
pub within_text : (z : Text) (k c : ℕ) → get_or z k 0 ≡ suc c → k < length z
within_text z k c e = elim (cases_lt k (length z)) [ inl lt ↦ lt | inr le ↦ absurd (let f = sym (get_or_past z k 0 le) ∙ e in omega (arith, f)) ]

digit_within : (z : Text) (k : ℕ) → is_in class.Digit (slice_index z k) ≡ true → k < length z
digit_within z k is = elim (cases_lt k (length z)) [ inl lt ↦ lt | inr le ↦ absurd (let f : is_in class.Digit 0 ≡ true = sym (ap (is_in class.Digit) (get_or_past z k 0 le)) ∙ is in cc) ]

pub past_within : (c : Class) (z : Text) (at : ℕ) → at ≤ length z → past c z at ≤ length z
past_within c z at le = omega (arith, prefix_len-le-length (is_in c) (drop at z), length-drop at z)

pub exponent_within : (z : Text) (at : ℕ) → at ≤ length z → past_exponent z at ≤ length z
exponent_within z at le = by (is_exponent_mark (slice_index z at)) refl (is_in class.Digit (slice_index z (exponent_digits z at))) refl where
  by : (u : Bool) → is_exponent_mark (slice_index z at) ≡ u → (v : Bool) → is_in class.Digit (slice_index z (exponent_digits z at)) ≡ v → past_exponent z at ≤ length z
  by false mark v _ = omega (arith, exp_no_mark z at mark)
  by true mark false digit = omega (arith, exp_no_digit z at digit)
  by true mark true digit = omega (arith, exp_digit z at mark digit, past_within class.Digit z (exponent_digits z at) (omega (arith, digit_within z (exponent_digits z at) digit)))

pub fraction_within : (z : Text) (at : ℕ) → at ≤ length z → past_fraction z at ≤ length z
fraction_within z at le = by (slice_index z at == 46) refl where
  by : (u : Bool) → (slice_index z at == 46) ≡ u → past_fraction z at ≤ length z
  by true point =
      let here : at < length z = within_text z at 45 (eqb-true _ 46 point) in
      omega (arith, frac_point z at point, exponent_within z (past class.Digit z (at + 1)) (past_within class.Digit z (at + 1) (omega arith)))
  by false none = omega (arith, frac_none z at none, exponent_within z at le)
