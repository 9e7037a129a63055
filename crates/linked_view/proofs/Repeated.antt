-- No number is found to repeat exactly where each is there at most once.
use Rattle.std.proofs.Common.{◌≡◌, ◌≤◌, ◌+◌, ◌∙◌, ℕ, ℤ, Bool, true, false, cond, ◌||◌, List, [], ◌∷◌, ◌++◌, Option, Some, None, map, length, take, sum_by, append_assoc, ap, sym, subst, refl, arith, length-append}
use Rattle.std.specs.List.{list_any}
use Rattle.std.specs.Ordering.{int_eq}
use Rattle.std.proofs.lemmas.Bool.Decides.{Decides-int_eq}
use Rattle.std.proofs.lemmas.List.Sums.{sum_by-cons, sum_by-append}
use Rattle.std.proofs.Math.Seq.{take-append_seam}
use Rattle.reflect_declarations.specs.Declarations.{each}
use Rattle.reflect_faults.specs.Faults.{Fault, Place}
use Rattle.reflect_names.specs.Names.{Places}
use Rattle.reflect_rules.specs.Repeats.{is_number, repeat_at, repeats, listed, repeat_faults}
use Rattle.schema_view.specs.Rules as rules
use Rattle.schema_view.proofs.Lists.{sum_map, sum_same}
use Rattle.linked_view.proofs.Counts.{one_if}
use Rattle.linked_view.proofs.Faults.{none_both, both_none, when_to, when_from}

-- how often a number is there
abbrev pub often : ℤ → List (Option ℤ) → ℕ
often n os = sum_by (λ o. one_if (is_number n o)) os

abbrev pub AreOnce : List (Option ℤ) → Type 0
AreOnce os = (n : ℤ) → often n os ≤ 1

any_none : (n : ℤ) (os : List (Option ℤ)) → list_any (is_number n) os ≡ false → often n os ≡ 0
any_none n [] e = refl
any_none n (o ∷ os) e = by (is_number n o) refl (sum_by-cons (λ o. one_if (is_number n o)) o os)
    (any_none n os) where
      by : (b : Bool) → is_number n o ≡ b → often n (o ∷ os) ≡ one_if (is_number n o) + often n os
          → (list_any (is_number n) os ≡ false → often n os ≡ 0) → often n (o ∷ os) ≡ 0
      by true is sum rest =
          let no : true ≡ false = sym (ap (λ b. b || list_any (is_number n) os) is) ∙ e in absurd (cc no)
      by false is sum rest =
          let r = rest (sym (ap (λ b. b || list_any (is_number n) os) is) ∙ e) in
          let none : one_if (is_number n o) ≡ 0 = ap one_if is in
          omega (arith, r, none, sum)

none_any : (n : ℤ) (os : List (Option ℤ)) → often n os ≡ 0 → list_any (is_number n) os ≡ false
none_any n [] e = refl
none_any n (o ∷ os) e = by (is_number n o) refl (sum_by-cons (λ o. one_if (is_number n o)) o os)
    (none_any n os) where
      by : (b : Bool) → is_number n o ≡ b → often n (o ∷ os) ≡ one_if (is_number n o) + often n os
          → (often n os ≡ 0 → list_any (is_number n) os ≡ false)
          → list_any (is_number n) (o ∷ os) ≡ false
      by true is sum rest =
          let one : one_if (is_number n o) ≡ 1 = ap one_if is in absurd (omega (arith, e, one, sum))
      by false is sum rest =
          ap (λ b. b || list_any (is_number n) os) is ∙ rest (omega (arith, e, sum))

last : (n : ℤ) (os : List (Option ℤ)) (o : Option ℤ)
    → often n (os ++ o ∷ []) ≡ often n os + one_if (is_number n o)
last n os o =
    let a = sum_by-append (λ o. one_if (is_number n o)) os (o ∷ []) in
    let b = sum_by-cons (λ o. one_if (is_number n o)) o [] in
    omega (arith, a, b)

-- one more number, which is not there yet
module _ (before : List (Option ℤ)) (z : ℤ) where
  once_more : AreOnce before → often z before ≡ 0 → AreOnce (before ++ Some z ∷ [])
  once_more once none n = by (int_eq z n) refl where
    by : (b : Bool) → int_eq z n ≡ b → often n (before ++ Some z ∷ []) ≤ 1
    by true is =
        let same : z ≡ n = (Decides-int_eq z n).0 is in
        let here : often n before ≡ 0 = ap (λ m. often m before) (sym same) ∙ none in
        let one : one_if (is_number n (Some z)) ≡ 1 = ap one_if is in
        let sum = last n before (Some z) in
        omega (arith, here, one, sum)
    by false is =
        let zero : one_if (is_number n (Some z)) ≡ 0 = ap one_if is in
        let le = once n in
        let sum = last n before (Some z) in
        omega (arith, le, zero, sum)

  new_there : (behind : List (Option ℤ)) → AreOnce (before ++ Some z ∷ behind) → often z before ≡ 0
  new_there behind once =
      let le = once z in
      let a = sum_by-append (λ o. one_if (is_number z o)) before (Some z ∷ behind) in
      let b = sum_by-cons (λ o. one_if (is_number z o)) (Some z) behind in
      let one : one_if (is_number z (Some z)) ≡ 1 = ap one_if ((Decides-int_eq z z).1 refl) in
      omega (arith, le, a, b, one)

next : (before : List (Option ℤ)) (o : Option ℤ) (behind : List (Option ℤ))
    → before ++ (o ∷ behind) ≡ (before ++ o ∷ []) ++ behind
next before o behind = sym (append_assoc before (o ∷ []) behind)

counted : (before : List (Option ℤ)) (o : Option ℤ) → length (before ++ o ∷ []) ≡ length before + 1
counted before o = length-append before (o ∷ [])

-- the numbers behind others that are there once
repeats_to : (ns before behind : List (Option ℤ)) (k : ℕ) → ns ≡ before ++ behind
    → k ≡ length before → AreOnce before → each (repeat_at ns) k behind ≡ [] → AreOnce ns
repeats_to ns before [] k is at once none = subst AreOnce (sym (is ∙ nothing before)) once where
  nothing : (xs : List (Option ℤ)) → xs ++ [] ≡ xs
  nothing [] = refl
  nothing (x ∷ xs) = ap (λ ys. x ∷ ys) (nothing xs)
repeats_to ns before (None ∷ behind) k is at once none =
    repeats_to ns (before ++ None ∷ []) behind (k + 1) (is ∙ next before None behind)
    (ap (λ n. n + 1) at ∙ sym (counted before None))
    (λ n. let le = once n in let sum = last n before None in omega (arith, le, sum)) none
repeats_to ns before (Some z ∷ behind) k is at once none =
    let parts = none_both (repeat_at ns k (Some z)) (each (repeat_at ns) (k + 1) behind) none in
    let front : take k ns ≡ before =
    ap (λ n. take n ns) at ∙ ap (take (length before)) is ∙ take-append_seam before (Some z ∷ behind) in
    let new : list_any (is_number z) before ≡ false =
    ap (list_any (is_number z)) (sym front) ∙ when_to (list_any (is_number z) (take k ns)) _ parts.0 in
    repeats_to ns (before ++ Some z ∷ []) behind (k + 1) (is ∙ next before (Some z) behind)
    (ap (λ n. n + 1) at ∙ sym (counted before (Some z)))
    (once_more before z once (any_none z before new)) parts.1

repeats_from : (ns before behind : List (Option ℤ)) (k : ℕ) → ns ≡ before ++ behind
    → k ≡ length before → AreOnce ns → each (repeat_at ns) k behind ≡ []
repeats_from ns before [] k is at once = refl
repeats_from ns before (None ∷ behind) k is at once =
    repeats_from ns (before ++ None ∷ []) behind (k + 1) (is ∙ next before None behind)
    (ap (λ n. n + 1) at ∙ sym (counted before None)) once
repeats_from ns before (Some z ∷ behind) k is at once =
    let front : take k ns ≡ before =
    ap (λ n. take n ns) at ∙ ap (take (length before)) is ∙ take-append_seam before (Some z ∷ behind) in
    let new = none_any z before (new_there before z behind (subst AreOnce is once)) in
    both_none (repeat_at ns k (Some z)) (each (repeat_at ns) (k + 1) behind)
    (when_from (list_any (is_number z) (take k ns)) _ (ap (list_any (is_number z)) front ∙ new))
    (repeats_from ns (before ++ Some z ∷ []) behind (k + 1) (is ∙ next before (Some z) behind)
    (ap (λ n. n + 1) at ∙ sym (counted before (Some z))) once)

no_number : (n : ℤ) → often n [] ≤ 1
no_number n = omega arith

module _ (fault : ℤ → Place → Fault) (tag number : ℤ) (path : List ℤ) (at : Places) where
  none_listed : (rs : List (ℕ × ℤ)) → listed fault tag number path at rs ≡ [] → rs ≡ []
  none_listed [] e = refl
  none_listed (r ∷ rs) e = absurd (cc e)

  pub once_to : (ns : List (Option ℤ)) → repeat_faults fault tag number path at ns ≡ [] → AreOnce ns
  once_to ns e = repeats_to ns [] ns 0 refl refl no_number (none_listed (repeats ns) e)

  pub once_from : (ns : List (Option ℤ)) → AreOnce ns → repeat_faults fault tag number path at ns ≡ []
  once_from ns once = ap (listed fault tag number path at) (repeats_from ns [] ns 0 refl refl once)

number_same : (n : ℤ) (o : Option ℤ) → is_number n o ≡ rules.is_number n o
number_same n None = refl
number_same n (Some z) = refl

-- the same count of what has the numbers
pub often_seen : {A B : Type 0} (v : A → B) (number : A → Option ℤ) (seen : B → Option ℤ)
    → ((x : A) → seen (v x) ≡ number x) → (n : ℤ) (xs : List A)
    → sum_by (λ y. cond (rules.is_number n (seen y)) 1 0) (map v xs) ≡ often n (map number xs)
often_seen v number seen same n xs =
    sum_map (λ y. cond (rules.is_number n (seen y)) 1 0) v xs
    ∙ sum_same (λ x. cond (rules.is_number n (seen (v x))) 1 0) (λ x. one_if (is_number n (number x)))
    (λ x. ap one_if (ap (rules.is_number n) (same x) ∙ sym (number_same n (number x)))) xs
    ∙ sym (sum_map (λ o. one_if (is_number n o)) number xs)
