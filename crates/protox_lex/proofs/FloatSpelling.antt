-- A text is a float exactly where it is spelled as one.
use Rattle.std.proofs.Common.{◌≡◌, ℕ, suc, ◌+◌, ◌≤◌, ◌<◌, Bool, true, false, cond, ltb, ◌&&◌, ◌||◌, not, [], ◌∷◌, ◌++◌, take, drop, get_or, length, ap, sym, subst, ◌∙◌, arith, refl, length-take, length-append, append_assoc, eq-eqb, ◌⊎◌, inl, inr}
use Rattle.std.specs.Prelude.{slice_index, ◌==◌}
use Rattle.std.specs.List.{prefix_len, list_all}
use Rattle.std.proofs.lemmas.Bool.{cases_lt, lt-ltb, le-ltb, eqb-true, ltb-true, ltb-false, and_parts}
use Rattle.std.proofs.lemmas.List.{append-nil, get_or_past, get_or-take, get_or-append-add, take-append-drop, take_more}
use Rattle.std.proofs.lemmas.List.Sums.{prefix_len-le-length}
use Rattle.std.proofs.Math.Seq.{drop-append-add, take-add, take-length}
use Rattle.protox_lex.specs.declared.class.Class.{Class}
use Rattle.protox_lex.specs.declared.class.Class.TheVariants as class
use Rattle.protox_lex.specs.Class.{Text, is_in, past}
use Rattle.protox_lex.specs.Lex.{begins_number, is_float, is_suffix, is_exponent_mark, exponent_digits, past_exponent, past_fraction, past_suffix}
use Rattle.protox_lex.specs.Spelled.{IsDecimals, IsExponent, unsigned, signed, Maybe, IsFloatLit, with_point, with_exponent, from_point, IsDecLit, IsFloat, plain, with_suffix}
use Rattle.protox_lex.proofs.Pieces.{is_float_text}
use Rattle.protox_lex.proofs.Runs.{all_of_run}
use Rattle.protox_lex.proofs.Numbers.{exp_no_mark, exp_no_digit, exp_digit, frac_point, frac_none, fraction-least, first_run}
use Rattle.protox_lex.proofs.Floats.{whole, end_of, floats, begins_with_point, suffix_cases, point_end, and_false}

-- ---- reading behind a front

past_behind : (c : Class) (a r : Text) (k : ℕ) → past c (a ++ r) (length a + k) ≡ length a + past c r k
past_behind c a r k = omega (arith, ap (prefix_len (is_in c)) (drop-append-add a r k))

digits_behind : (a r : Text) (k : ℕ) → exponent_digits (a ++ r) (length a + k) ≡ length a + exponent_digits r k
digits_behind a r k =
    let place : length a + k + 1 ≡ length a + (k + 1) = omega arith in
    let same : get_or (a ++ r) (length a + k + 1) 0 ≡ get_or r (k + 1) 0 = ap (λ i. get_or (a ++ r) i 0) place ∙ get_or-append-add a r (k + 1) 0 in
    ap (λ b. cond (b == 43 || b == 45) (length a + k + 2) (length a + k + 1)) same ∙ by (slice_index r (k + 1) == 43 || slice_index r (k + 1) == 45) refl where
      by : (v : Bool) → (slice_index r (k + 1) == 43 || slice_index r (k + 1) == 45) ≡ v → cond (slice_index r (k + 1) == 43 || slice_index r (k + 1) == 45) (length a + k + 2) (length a + k + 1) ≡ length a + exponent_digits r k
      by true e = rw e (omega arith)
      by false e = rw e (omega arith)

exponent_behind : (a r : Text) (k : ℕ) → past_exponent (a ++ r) (length a + k) ≡ length a + past_exponent r k
exponent_behind a r k = by (is_exponent_mark (slice_index r k)) refl (is_in class.Digit (slice_index r (exponent_digits r k))) refl where
  mark_same : is_exponent_mark (slice_index (a ++ r) (length a + k)) ≡ is_exponent_mark (slice_index r k)
  mark_same = ap is_exponent_mark (get_or-append-add a r k 0)

  digit_same : is_in class.Digit (slice_index (a ++ r) (exponent_digits (a ++ r) (length a + k))) ≡ is_in class.Digit (slice_index r (exponent_digits r k))
  digit_same = ap (λ i. is_in class.Digit (get_or (a ++ r) i 0)) (digits_behind a r k) ∙ ap (is_in class.Digit) (get_or-append-add a r (exponent_digits r k) 0)

  by : (u : Bool) → is_exponent_mark (slice_index r k) ≡ u → (v : Bool) → is_in class.Digit (slice_index r (exponent_digits r k)) ≡ v → past_exponent (a ++ r) (length a + k) ≡ length a + past_exponent r k
  by false mark v _ = omega (arith, exp_no_mark (a ++ r) (length a + k) (mark_same ∙ mark), exp_no_mark r k mark)
  by true mark false digit = omega (arith, exp_no_digit (a ++ r) (length a + k) (digit_same ∙ digit), exp_no_digit r k digit)
  by true mark true digit =
      let here = exp_digit (a ++ r) (length a + k) (mark_same ∙ mark) (digit_same ∙ digit) in
      let there = exp_digit r k mark digit in
      let moved : past class.Digit (a ++ r) (exponent_digits (a ++ r) (length a + k)) ≡ length a + past class.Digit r (exponent_digits r k) = ap (past class.Digit (a ++ r)) (digits_behind a r k) ∙ past_behind class.Digit a r (exponent_digits r k) in
      omega (arith, here, there, moved)

fraction_behind : (a r : Text) (k : ℕ) → past_fraction (a ++ r) (length a + k) ≡ length a + past_fraction r k
fraction_behind a r k = by (slice_index r k == 46) refl where
  same : (slice_index (a ++ r) (length a + k) == 46) ≡ (slice_index r k == 46)
  same = ap (λ b. b == 46) (get_or-append-add a r k 0)

  by : (u : Bool) → (slice_index r k == 46) ≡ u → past_fraction (a ++ r) (length a + k) ≡ length a + past_fraction r k
  by true point =
      let place : length a + k + 1 ≡ length a + (k + 1) = omega arith in
      let moved : past class.Digit (a ++ r) (length a + k + 1) ≡ length a + past class.Digit r (k + 1) = ap (past class.Digit (a ++ r)) place ∙ past_behind class.Digit a r (k + 1) in
      frac_point (a ++ r) (length a + k) (same ∙ point) ∙ ap (past_exponent (a ++ r)) moved ∙ exponent_behind a r (past class.Digit r (k + 1)) ∙ ap (λ n. length a + n) (sym (frac_point r k point))
  by false none = frac_none (a ++ r) (length a + k) (same ∙ none) ∙ exponent_behind a r k ∙ ap (λ n. length a + n) (sym (frac_none r k none))

-- ---- what is spelled is read

pub run_front : (p : ℕ → Bool) (a r : Text) → list_all p a ≡ true → prefix_len p r ≡ 0 → prefix_len p (a ++ r) ≡ length a
run_front p [] r all none = none
run_front p (b ∷ a) r all none =
    let both = and_parts (p b) (list_all p a) all in
    rw both.0 (omega (arith, run_front p a r both.1 none))

first_not : (p : ℕ → Bool) (r : Text) → p (slice_index r 0) ≡ false → prefix_len p r ≡ 0
first_not p [] e = refl
first_not p (b ∷ r) e = rw e refl

pub first_is : (a r : Text) → 0 < length a → slice_index (a ++ r) 0 ≡ slice_index a 0
first_is [] r some = absurd (omega arith)
first_is (b ∷ a) r some = refl

pub first_digit : (a : Text) → IsDecimals a → is_in class.Digit (slice_index a 0) ≡ true
first_digit [] d = absurd (omega (arith, d.some))
first_digit (b ∷ a) d = (and_parts (is_in class.Digit b) (list_all (is_in class.Digit) a) d.digits).0

-- what may stand behind a float is no digit
abbrev Behind : Text → Type 0
Behind s = (is_in class.Digit (slice_index s 0) ≡ false) × (is_exponent_mark (slice_index s 0) ≡ false)

mark_no_digit : (e : ℕ) → is_exponent_mark e ≡ true → is_in class.Digit e ≡ false
mark_no_digit e mark = by (e == 101) refl where
  by : (u : Bool) → (e == 101) ≡ u → is_in class.Digit e ≡ false
  by true h = rw (eqb-true e 101 h) refl
  by false h = rw (eqb-true e 69 (rw h at mark)) refl

no_sign : (b : ℕ) → is_in class.Digit b ≡ true → (b == 43 || b == 45) ≡ false
no_sign b digit = by (b == 43) refl (b == 45) refl where
  by : (u : Bool) → (b == 43) ≡ u → (v : Bool) → (b == 45) ≡ v → (b == 43 || b == 45) ≡ false
  by true h v _ = absurd (let wrong : true ≡ false = sym digit ∙ ap (is_in class.Digit) (eqb-true b 43 h) in cc)
  by false h true i = absurd (let wrong : true ≡ false = sym digit ∙ ap (is_in class.Digit) (eqb-true b 45 i) in cc)
  by false h false i = rw (h, i) refl

decimals_read : (d s : Text) → IsDecimals d → is_in class.Digit (slice_index s 0) ≡ false → prefix_len (is_in class.Digit) (d ++ s) ≡ length d
decimals_read d s decimals behind = run_front (is_in class.Digit) d s decimals.digits (first_not (is_in class.Digit) s behind)

unsigned_read : (e : ℕ) (d s : Text) → is_exponent_mark e ≡ true → IsDecimals d → is_in class.Digit (slice_index s 0) ≡ false → past_exponent (e ∷ (d ++ s)) 0 ≡ suc (length d)
unsigned_read e d s mark decimals behind =
    let first : is_in class.Digit (slice_index (d ++ s) 0) ≡ true = ap (is_in class.Digit) (first_is d s decimals.some) ∙ first_digit d decimals in
    let start : exponent_digits (e ∷ (d ++ s)) 0 ≡ 1 = rw (no_sign (slice_index (d ++ s) 0) first) refl in
    exp_digit (e ∷ (d ++ s)) 0 mark (ap (λ k. is_in class.Digit (get_or (e ∷ (d ++ s)) k 0)) start ∙ first) ∙ ap (past class.Digit (e ∷ (d ++ s))) start ∙ omega (arith, decimals_read d s decimals behind)

signed_read : (e g : ℕ) (d s : Text) → is_exponent_mark e ≡ true → (g == 43 || g == 45) ≡ true → IsDecimals d → is_in class.Digit (slice_index s 0) ≡ false → past_exponent (e ∷ g ∷ (d ++ s)) 0 ≡ suc (suc (length d))
signed_read e g d s mark sign decimals behind =
    let first : is_in class.Digit (slice_index (d ++ s) 0) ≡ true = ap (is_in class.Digit) (first_is d s decimals.some) ∙ first_digit d decimals in
    let start : exponent_digits (e ∷ g ∷ (d ++ s)) 0 ≡ 2 = rw sign refl in
    exp_digit (e ∷ g ∷ (d ++ s)) 0 mark (ap (λ k. is_in class.Digit (get_or (e ∷ g ∷ (d ++ s)) k 0)) start ∙ first) ∙ ap (past class.Digit (e ∷ g ∷ (d ++ s))) start ∙ omega (arith, decimals_read d s decimals behind)

exponent_read : (e s : Text) → IsExponent e → is_in class.Digit (slice_index s 0) ≡ false → past_exponent (e ++ s) 0 ≡ length e
exponent_read z s (unsigned e d is mark decimals) behind = subst (λ w. past_exponent (w ++ s) 0 ≡ length w) (sym is) (unsigned_read e d s mark decimals behind)
exponent_read z s (signed e g d is mark sign decimals) behind = subst (λ w. past_exponent (w ++ s) 0 ≡ length w) (sym is) (signed_read e g d s mark sign decimals behind)

exponent_first : (e s : Text) → IsExponent e → is_exponent_mark (slice_index (e ++ s) 0) ≡ true
exponent_first z s (unsigned e d is mark decimals) = subst (λ w. is_exponent_mark (slice_index (w ++ s) 0) ≡ true) (sym is) mark
exponent_first z s (signed e g d is mark sign decimals) = subst (λ w. is_exponent_mark (slice_index (w ++ s) 0) ≡ true) (sym is) mark

exponent_some : (e : Text) → IsExponent e → 0 < length e
exponent_some z (unsigned e d is mark decimals) = omega (arith, ap length is)
exponent_some z (signed e g d is mark sign decimals) = omega (arith, ap length is)

maybe_read : (e s : Text) → Maybe IsExponent e → Behind s → past_exponent (e ++ s) 0 ≡ length e
maybe_read e s (inl none) behind = subst (λ w. past_exponent (w ++ s) 0 ≡ length w) (sym none) (exp_no_mark s 0 behind.1)
maybe_read e s (inr is) behind = exponent_read e s is behind.0

maybe_first : (e s : Text) → Maybe IsExponent e → Behind s → is_in class.Digit (slice_index (e ++ s) 0) ≡ false
maybe_first e s (inl none) behind = subst (λ w. is_in class.Digit (slice_index (w ++ s) 0) ≡ false) (sym none) behind.0
maybe_first e s (inr is) behind = mark_no_digit (slice_index (e ++ s) 0) (exponent_first e s is)

maybe_digits : (b : Text) → Maybe IsDecimals b → list_all (is_in class.Digit) b ≡ true
maybe_digits b (inl none) = ap (list_all (is_in class.Digit)) none
maybe_digits b (inr is) = is.digits

point_read : (b e s : Text) → list_all (is_in class.Digit) b ≡ true → Maybe IsExponent e → Behind s → past_fraction (46 ∷ (b ++ (e ++ s))) 0 ≡ suc (length b + length e)
point_read b e s digits is behind =
    let r = 46 ∷ (b ++ (e ++ s)) in
    let run : prefix_len (is_in class.Digit) (b ++ (e ++ s)) ≡ length b = run_front (is_in class.Digit) b (e ++ s) digits (first_not (is_in class.Digit) (e ++ s) (maybe_first e s is behind)) in
    let place : past class.Digit r 1 ≡ length (46 ∷ b) + 0 = omega (arith, run) in
    frac_point r 0 refl ∙ ap (past_exponent r) place ∙ exponent_behind (46 ∷ b) (e ++ s) 0 ∙ omega (arith, maybe_read e s is behind)

-- where the digits in front end, and the rest of a float behind them
record Reads (y : Text) (digits end : ℕ) : Type 0 where
  whole_is : whole y ≡ digits
  end_is : end_of y ≡ end

read_at : (y a r : Text) (n : ℕ) → y ≡ a ++ r → list_all (is_in class.Digit) a ≡ true → is_in class.Digit (slice_index r 0) ≡ false → past_fraction r 0 ≡ n → Reads y (length a) (length a + n)
read_at y a r n is digits behind fraction =
    let run : prefix_len (is_in class.Digit) (a ++ r) ≡ length a = run_front (is_in class.Digit) a r digits (first_not (is_in class.Digit) r behind) in
    let digits_end : whole (a ++ r) ≡ length a + 0 = omega (arith, run) in
    let both : Reads (a ++ r) (length a) (length a + n) = record {
      whole_is = omega (arith, run);
      end_is = ap (past_fraction (a ++ r)) digits_end ∙ fraction_behind a r 0 ∙ ap (λ k. length a + k) fraction;
    } in
    subst (λ w. Reads w (length a) (length a + n)) (sym is) both

mark_no_point : (b : ℕ) → is_exponent_mark b ≡ true → (b == 46) ≡ false
mark_no_point b mark = by (b == 46) refl where
  by : (v : Bool) → (b == 46) ≡ v → (b == 46) ≡ false
  by true h = absurd (let wrong : true ≡ false = sym mark ∙ ap is_exponent_mark (eqb-true b 46 h) in cc)
  by false h = h

-- a float is read to its end, behind which stands no more of it
abbrev IsRead : Text → Text → Type 0
IsRead x s = (whole (x ++ s) < length x) × (end_of (x ++ s) ≡ length x)

literal_read : (x s : Text) → IsFloatLit x → Behind s → IsRead x s
literal_read x s (with_point a b e is da mb me) behind =
    let same : x ++ s ≡ a ++ (46 ∷ (b ++ (e ++ s))) = ap (λ w. w ++ s) is ∙ append_assoc a (46 ∷ (b ++ e)) s ∙ ap (λ w. a ++ (46 ∷ w)) (append_assoc b e s) in
    let r = read_at (x ++ s) a (46 ∷ (b ++ (e ++ s))) (suc (length b + length e)) same da.digits refl (point_read b e s (maybe_digits b mb) me behind) in
    let long : length x ≡ length a + suc (length b + length e) = omega (arith, ap length is, length-append a (46 ∷ (b ++ e)), length-append b e) in
    (omega (arith, r.whole_is, long), r.end_is ∙ sym long)
literal_read x s (with_exponent a e is da ie) behind =
    let same : x ++ s ≡ a ++ (e ++ s) = ap (λ w. w ++ s) is ∙ append_assoc a e s in
    let mark = exponent_first e s ie in
    let fraction : past_fraction (e ++ s) 0 ≡ length e = frac_none (e ++ s) 0 (mark_no_point (slice_index (e ++ s) 0) mark) ∙ exponent_read e s ie behind.0 in
    let r = read_at (x ++ s) a (e ++ s) (length e) same da.digits (mark_no_digit (slice_index (e ++ s) 0) mark) fraction in
    let long : length x ≡ length a + length e = omega (arith, ap length is, length-append a e) in
    (omega (arith, r.whole_is, long, exponent_some e ie), r.end_is ∙ sym long)
literal_read x s (from_point b e is db me) behind =
    let same : x ++ s ≡ [] ++ (46 ∷ (b ++ (e ++ s))) = ap (λ w. w ++ s) is ∙ ap (λ w. 46 ∷ w) (append_assoc b e s) in
    let r = read_at (x ++ s) [] (46 ∷ (b ++ (e ++ s))) (suc (length b + length e)) same refl refl (point_read b e s db.digits me behind) in
    let long : length x ≡ suc (length b + length e) = omega (arith, ap length is, length-append b e) in
    (omega (arith, r.whole_is, long), omega (arith, r.end_is, long))

suffix_behind : (s : ℕ) → is_suffix s ≡ true → Behind (s ∷ [])
suffix_behind s is = by (s == 102) refl where
  by : (u : Bool) → (s == 102) ≡ u → Behind (s ∷ [])
  by true h = rw (eqb-true s 102 h) (refl, refl)
  by false h = rw (eqb-true s 70 (rw h at is)) (refl, refl)

suffix_is : (x : Text) (s : ℕ) → is_suffix s ≡ true → is_suffix (slice_index (x ++ (s ∷ [])) (length x)) ≡ true
suffix_is x s is =
    let place : length x + 0 ≡ length x = omega arith in
    let here : get_or (x ++ (s ∷ [])) (length x) 0 ≡ s = ap (λ i. get_or (x ++ (s ∷ [])) i 0) (sym place) ∙ get_or-append-add x (s ∷ []) 0 0 in
    ap is_suffix here ∙ is

text_is : (z : Text) (end : ℕ) → floats z ≡ true → end_of z ≡ end → past_suffix z end ≡ length z → is_float_text z ≡ true
text_is z end is e all = rw is (ap (λ k. past_suffix z k == length z) e ∙ eq-eqb _ _ all)

plain_text : (x : Text) → IsFloatLit x → is_float_text x ≡ true
plain_text x is =
    let r : IsRead x [] = literal_read x [] is (refl, refl) in
    let nil : x ++ [] ≡ x = append-nil x in
    let less : whole x < length x = subst (λ w. whole w < length x) nil r.0 in
    let end : end_of x ≡ length x = subst (λ w. end_of w ≡ length x) nil r.1 in
    let f : floats x ≡ true = rw (lt-ltb (whole x) (end_of x) (omega (arith, less, end))) refl in
    text_is x (length x) f end (rw (get_or_past x (length x) 0 (omega arith)) refl)

suffix_text : (x : Text) (s : ℕ) → is_suffix s ≡ true → floats (x ++ (s ∷ [])) ≡ true → end_of (x ++ (s ∷ [])) ≡ length x → is_float_text (x ++ (s ∷ [])) ≡ true
suffix_text x s is f end =
    let all : length (x ++ (s ∷ [])) ≡ length x + 1 = omega (arith, length-append x (s ∷ [])) in
    text_is (x ++ (s ∷ [])) (length x) f end (rw (suffix_is x s is) (sym all))

none_read : (s : ℕ) → is_suffix s ≡ true → past_fraction (s ∷ []) 0 ≡ 0
none_read s is = frac_none (s ∷ []) 0 (no_point s is) ∙ exp_no_mark (s ∷ []) 0 (suffix_behind s is).1 where
  no_point : (s : ℕ) → is_suffix s ≡ true → (s == 46) ≡ false
  no_point s is = by (s == 46) refl where
    by : (v : Bool) → (s == 46) ≡ v → (s == 46) ≡ false
    by true h = absurd (let wrong : true ≡ false = sym is ∙ ap is_suffix (eqb-true s 46 h) in cc)
    by false h = h

floats_dec : (x : Text) (s : ℕ) → is_suffix s ≡ true → IsDecLit x → slice_index (x ++ (s ∷ [])) 0 ≡ slice_index x 0 → is_float (x ++ (s ∷ [])) (length x) (length x) ≡ true
floats_dec x s is lit first =
    let same : ltb (length x) (length x) ≡ false = le-ltb (length x) (length x) (omega arith) in
    ap (λ b. ltb (length x) (length x) || ((not (b == 48) || length x == 1) && is_suffix (slice_index (x ++ (s ∷ [])) (length x)))) first ∙ rw (same, lit.plain, suffix_is x s is) refl

dec_lit_floats : (x : Text) (s : ℕ) → is_suffix s ≡ true → IsDecLit x → (floats (x ++ (s ∷ [])) ≡ true) × (end_of (x ++ (s ∷ [])) ≡ length x)
dec_lit_floats x s is lit =
    let behind = suffix_behind s is in
    let r = read_at (x ++ (s ∷ [])) x (s ∷ []) 0 refl lit.decimals.digits behind.0 (none_read s is) in
    let end : end_of (x ++ (s ∷ [])) ≡ length x = omega (arith, r.end_is) in
    let first : slice_index (x ++ (s ∷ [])) 0 ≡ slice_index x 0 = first_is x (s ∷ []) lit.decimals.some in
    (ap (λ k. is_float (x ++ (s ∷ [])) k (end_of (x ++ (s ∷ [])))) r.whole_is ∙ ap (λ k. is_float (x ++ (s ∷ [])) (length x) k) end ∙ floats_dec x s is lit first, end)

pub float_text : (z : Text) → IsFloat z → is_float_text z ≡ true
float_text z (plain is) = plain_text z is
float_text z (with_suffix x s is suffix (inl lit)) =
    let r = literal_read x (s ∷ []) lit (suffix_behind s suffix) in
    let f : floats (x ++ (s ∷ [])) ≡ true = rw (lt-ltb (whole (x ++ (s ∷ []))) (end_of (x ++ (s ∷ []))) (omega (arith, r.0, r.1))) refl in
    subst (λ w. is_float_text w ≡ true) (sym is) (suffix_text x s suffix f r.1)
float_text z (with_suffix x s is suffix (inr lit)) =
    let f = dec_lit_floats x s suffix lit in
    subst (λ w. is_float_text w ≡ true) (sym is) (suffix_text x s suffix f.0 f.1)

-- ---- what is read is spelled

-- the front of a text up to where its exponent ends
exponent_spelled : (r : Text) → 0 < past_exponent r 0 → IsExponent (take (past_exponent r 0) r)
exponent_spelled r some = by (is_exponent_mark (slice_index r 0)) refl (is_in class.Digit (slice_index r (exponent_digits r 0))) refl where
  by : (u : Bool) → is_exponent_mark (slice_index r 0) ≡ u → (v : Bool) → is_in class.Digit (slice_index r (exponent_digits r 0)) ≡ v → IsExponent (take (past_exponent r 0) r)
  by false mark v _ = absurd (omega (arith, exp_no_mark r 0 mark))
  by true mark false digit = absurd (omega (arith, exp_no_digit r 0 digit))
  by true mark true digit = subst (λ k. IsExponent (take k r)) (sym (exp_digit r 0 mark digit)) (spelled r mark digit) where
    run_is : (d : Text) → is_in class.Digit (slice_index d 0) ≡ true → IsDecimals (take (prefix_len (is_in class.Digit) d) d)
    run_is d first = record {
      some = omega (arith, length-take (prefix_len (is_in class.Digit) d) d, prefix_len-le-length (is_in class.Digit) d, first_run (is_in class.Digit) d refl first);
      digits = all_of_run (is_in class.Digit) d;
    }

    spelled : (r : Text) → is_exponent_mark (slice_index r 0) ≡ true → is_in class.Digit (slice_index r (exponent_digits r 0)) ≡ true → IsExponent (take (past class.Digit r (exponent_digits r 0)) r)
    spelled [] mark digit = absurd (let wrong : false ≡ true = mark in cc)
    spelled (e ∷ []) mark digit = absurd (let wrong : false ≡ true = digit in cc)
    spelled (e ∷ g ∷ d) mark digit = sign (g == 43 || g == 45) refl digit where
      sign : (v : Bool) → (g == 43 || g == 45) ≡ v → is_in class.Digit (slice_index (e ∷ g ∷ d) (exponent_digits (e ∷ g ∷ d) 0)) ≡ true → IsExponent (take (past class.Digit (e ∷ g ∷ d) (exponent_digits (e ∷ g ∷ d) 0)) (e ∷ g ∷ d))
      sign true is digit =
          let first : is_in class.Digit (slice_index d 0) ≡ true = rw is at digit in
          let n = prefix_len (is_in class.Digit) d in
          let two : 2 + n ≡ suc (suc n) = omega arith in
          rw (is, two) (signed e g (take n d) refl mark is (run_is d first))
      sign false is digit =
          let first : is_in class.Digit g ≡ true = rw is at digit in
          let n = prefix_len (is_in class.Digit) (g ∷ d) in
          let one : 1 + n ≡ suc n = omega arith in
          rw (is, one) (unsigned e (take n (g ∷ d)) refl mark (run_is (g ∷ d) first))

maybe_spelled : (r : Text) → Maybe IsExponent (take (past_exponent r 0) r)
maybe_spelled r = elim (cases_lt 0 (past_exponent r 0)) [
  | inl some ↦ inr (exponent_spelled r some)
  | inr none ↦ inl (let zero_is : past_exponent r 0 ≡ 0 = omega arith in ap (λ k. take k r) zero_is)
]

maybe_run : (r : Text) → Maybe IsDecimals (take (prefix_len (is_in class.Digit) r) r)
maybe_run r = elim (cases_lt 0 (prefix_len (is_in class.Digit) r)) [
  | inl some ↦ inr (record { some = omega (arith, length-take (prefix_len (is_in class.Digit) r) r, prefix_len-le-length (is_in class.Digit) r); digits = all_of_run (is_in class.Digit) r })
  | inr none ↦ inl (let zero_is : prefix_len (is_in class.Digit) r ≡ 0 = omega arith in ap (λ k. take k r) zero_is)
]

-- a point, decimals and an exponent, as far as they are read
point_front : (y : Text) → let n = prefix_len (is_in class.Digit) y in take (past_fraction (46 ∷ y) 0) (46 ∷ y) ≡ 46 ∷ (take n y ++ take (past_exponent (drop n y) 0) (drop n y))
point_front y =
    let n = prefix_len (is_in class.Digit) y in
    let k = past_exponent (drop n y) 0 in
    let split : take n y ++ drop n y ≡ y = take-append-drop n y in
    let long : length (take n y) ≡ n = omega (arith, length-take n y, prefix_len-le-length (is_in class.Digit) y) in
    let place : past class.Digit (46 ∷ y) 1 ≡ length (46 ∷ take n y) + 0 = omega (arith, long) in
    let moved : past_exponent (46 ∷ (take n y ++ drop n y)) (length (46 ∷ take n y) + 0) ≡ length (46 ∷ take n y) + k = exponent_behind (46 ∷ take n y) (drop n y) 0 in
    let back : past_exponent (46 ∷ y) (length (46 ∷ take n y) + 0) ≡ length (46 ∷ take n y) + k = subst (λ w. past_exponent (46 ∷ w) (length (46 ∷ take n y) + 0) ≡ length (46 ∷ take n y) + k) split moved in
    let end : past_fraction (46 ∷ y) 0 ≡ suc (n + k) = frac_point (46 ∷ y) 0 refl ∙ ap (past_exponent (46 ∷ y)) place ∙ back ∙ omega (arith, long) in
    ap (λ j. take j (46 ∷ y)) end ∙ ap (λ w. 46 ∷ w) (take-add n k y)

-- ---- the digits in front, and the rest

front_split : (z : Text) → z ≡ take (whole z) z ++ drop (whole z) z
front_split z = sym (take-append-drop (whole z) z)

whole_length : (z : Text) → length (take (whole z) z) ≡ whole z
whole_length z = omega (arith, length-take (whole z) z, prefix_len-le-length (is_in class.Digit) z)

end_split : (z : Text) → end_of z ≡ whole z + past_fraction (drop (whole z) z) 0
end_split z =
    let a = take (whole z) z in
    let r = drop (whole z) z in
    let place : whole z ≡ length a + 0 = omega (arith, whole_length z) in
    ap (past_fraction z) place ∙ ap (λ w. past_fraction w (length a + 0)) (front_split z) ∙ fraction_behind a r 0 ∙ ap (λ k. k + past_fraction r 0) (whole_length z)

front_digits : (z : Text) → 0 < whole z → IsDecimals (take (whole z) z)
front_digits z some = record { some = omega (arith, whole_length z); digits = digits_of } where
  zero_in : whole z ≡ prefix_len (is_in class.Digit) z
  zero_in = omega arith

  digits_of : list_all (is_in class.Digit) (take (whole z) z) ≡ true
  digits_of = ap (λ k. list_all (is_in class.Digit) (take k z)) zero_in ∙ all_of_run (is_in class.Digit) z

-- a number without digits in front begins with a point
first_point : (z : Text) → begins_number z ≡ true → whole z ≡ 0 → (y : Text) × (z ≡ 46 ∷ y) × (is_in class.Digit (slice_index y 0) ≡ true)
first_point [] begins none = absurd (let wrong : false ≡ true = begins in cc)
first_point (b ∷ y) begins none = by (is_in class.Digit b) refl where
  by : (v : Bool) → is_in class.Digit b ≡ v → (x : Text) × (b ∷ y ≡ 46 ∷ x) × (is_in class.Digit (slice_index x 0) ≡ true)
  by true digit = absurd (let more : 0 + (1 + prefix_len (is_in class.Digit) y) ≡ 0 = rw digit at none in omega (arith, more))
  by false digit = let p = begins_with_point b y begins digit in (y, ap (λ k. k ∷ y) p.0, p.1)

-- ---- a float that is read

spelled_behind : (a r : Text) → IsDecimals a → 0 < past_fraction r 0 → IsFloatLit (a ++ take (past_fraction r 0) r)
spelled_behind a [] decimals some = absurd (omega (arith, frac_none [] 0 refl, exp_no_mark [] 0 refl))
spelled_behind a (c ∷ y) decimals some = by (c == 46) refl where
  by : (v : Bool) → (c == 46) ≡ v → IsFloatLit (a ++ take (past_fraction (c ∷ y) 0) (c ∷ y))
  by true point =
      let n = prefix_len (is_in class.Digit) y in
      let at_point : IsFloatLit (a ++ take (past_fraction (46 ∷ y) 0) (46 ∷ y)) =
      with_point a (take n y) (take (past_exponent (drop n y) 0) (drop n y)) (ap (λ w. a ++ w) (point_front y)) decimals (maybe_run y) (maybe_spelled (drop n y)) in
      subst (λ k. IsFloatLit (a ++ take (past_fraction (k ∷ y) 0) (k ∷ y))) (sym (eqb-true c 46 point)) at_point
  by false none =
      let e : past_fraction (c ∷ y) 0 ≡ past_exponent (c ∷ y) 0 = frac_none (c ∷ y) 0 none in
      with_exponent a (take (past_fraction (c ∷ y) 0) (c ∷ y)) refl decimals (subst (λ k. IsExponent (take k (c ∷ y))) (sym e) (exponent_spelled (c ∷ y) (omega (arith, e))))

spelled_from_point : (y : Text) → is_in class.Digit (slice_index y 0) ≡ true → IsFloatLit (take (past_fraction (46 ∷ y) 0) (46 ∷ y))
spelled_from_point y digit =
    let n = prefix_len (is_in class.Digit) y in
    let decimals : IsDecimals (take n y) = record {
      some = omega (arith, length-take n y, prefix_len-le-length (is_in class.Digit) y, first_run (is_in class.Digit) y refl digit);
      digits = all_of_run (is_in class.Digit) y;
    } in
    from_point (take n y) (take (past_exponent (drop n y) 0) (drop n y)) (point_front y) decimals (maybe_spelled (drop n y))

literal_spelled : (z : Text) → begins_number z ≡ true → whole z < end_of z → IsFloatLit (take (end_of z) z)
literal_spelled z begins less = elim (cases_lt 0 (whole z)) [
  | inl some ↦
      let r = drop (whole z) z in
      let e : take (end_of z) z ≡ take (whole z) z ++ take (past_fraction r 0) r = ap (λ k. take k z) (end_split z) ∙ take-add (whole z) (past_fraction r 0) z in
      subst (λ w. IsFloatLit w) (sym e) (spelled_behind (take (whole z) z) r (front_digits z some) (omega (arith, end_split z)))
  | inr none ↦
      let start : whole z ≡ 0 = omega arith in
      let p = first_point z begins start in
      let e : end_of z ≡ past_fraction z 0 = ap (past_fraction z) start in
      subst (λ k. IsFloatLit (take k z)) (sym e) (subst (λ w. IsFloatLit (take (past_fraction w 0) w)) (sym p.1) (spelled_from_point p.0 p.2))
]

pub last_byte : (z : Text) (n : ℕ) → n + 1 ≡ length z → z ≡ take n z ++ (slice_index z n ∷ [])
last_byte z n e = sym (ap (λ k. take k z) e ∙ take-length z) ∙ take_more z n 0 (omega arith)

dec_lit_spelled : (z : Text) → begins_number z ≡ true → end_of z ≡ whole z → (not (slice_index z 0 == 48) || whole z == 1) ≡ true → IsDecLit (take (end_of z) z)
dec_lit_spelled z begins same first = elim (cases_lt 0 (whole z)) [
  | inl some ↦
      let head : slice_index (take (whole z) z) 0 ≡ slice_index z 0 = get_or-take (whole z) z 0 0 some in
      let lit : IsDecLit (take (whole z) z) = record {
        decimals = front_digits z some;
        plain = ap (λ b. not (b == 48) || length (take (whole z) z) == 1) head ∙ ap (λ k. not (slice_index z 0 == 48) || k == 1) (whole_length z) ∙ first;
      } in
      subst (λ k. IsDecLit (take k z)) (sym same) lit
  | inr none ↦
      let p = first_point z begins (omega arith) in
      let two : 2 ≤ end_of z = subst (λ w. 2 ≤ end_of w) (sym p.1) (point_end p.0 p.2) in
      absurd (omega arith)
]

pub float_spelled : (z : Text) → begins_number z ≡ true → is_float_text z ≡ true → IsFloat z
float_spelled z begins is = by (ltb (whole z) (end_of z)) refl (suffix_cases z (end_of z)) where
  both : (floats z ≡ true) × ((past_suffix z (end_of z) == length z) ≡ true)
  both = and_parts (floats z) (past_suffix z (end_of z) == length z) is

  all : past_suffix z (end_of z) ≡ length z
  all = eqb-true _ _ both.1

  by : (u : Bool) → ltb (whole z) (end_of z) ≡ u → (is_suffix (slice_index z (end_of z)) ≡ true) × (past_suffix z (end_of z) ≡ end_of z + 1) ⊎ (is_suffix (slice_index z (end_of z)) ≡ false) × (past_suffix z (end_of z) ≡ end_of z) → IsFloat z
  by true less (inl s) =
      let e : end_of z + 1 ≡ length z = omega (arith, s.1, all) in
      with_suffix (take (end_of z) z) (slice_index z (end_of z)) (last_byte z (end_of z) e) s.0 (inl (literal_spelled z begins (ltb-true _ _ less)))
  by true less (inr s) =
      let e : end_of z ≡ length z = sym s.1 ∙ all in
      plain (subst (λ w. IsFloatLit w) (ap (λ k. take k z) e ∙ take-length z) (literal_spelled z begins (ltb-true _ _ less)))
  by false over (inl s) =
      let e : end_of z + 1 ≡ length z = omega (arith, s.1, all) in
      let same : end_of z ≡ whole z = omega (arith, ltb-false _ _ over, fraction-least z (whole z)) in
      let first = and_parts (not (slice_index z 0 == 48) || whole z == 1) (is_suffix (slice_index z (end_of z))) (rw over at both.0) in
      with_suffix (take (end_of z) z) (slice_index z (end_of z)) (last_byte z (end_of z) e) s.0 (inr (dec_lit_spelled z begins same first.0))
  by false over (inr s) = absurd (let f = rw (over, s.0, and_false (not (slice_index z 0 == 48) || whole z == 1)) at both.0 in cc)
