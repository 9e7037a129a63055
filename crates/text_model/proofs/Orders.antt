-- The numbers in the order of printing: each that a field may have, once.
use Rattle.std.proofs.Common.{◌≡◌, ◌⊎◌, inl, inr, ℕ, zero, suc, ◌+◌, ◌-◌, ◌<◌, ◌≤◌, ◌^◌, ◌==◌, ◌||◌, ◌&&◌, not, Bool, true, false, cond, List, [], ◌∷◌, ◌++◌, Option, refl, sym, ap, ◌∙◌, subst, arith}
use Rattle.std.specs.List.{AllByRecursion, filter}
use Rattle.std.proofs.lemmas.Bool.Decides.{eqb_tells}
use Rattle.std.proofs.lemmas.Bool.{and_parts, eq-eqb, or_from, or_parts, or_right, not-true}
use mathlib.Core.Bool.{and-false, and-true, or-not_self, or_assoc}
use Rattle.protobuf_model.specs.Types.{Field}
use Rattle.protobuf_model.specs.Bytes.{count_from, field_numbers, is_declared}
use Rattle.protobuf_model.proofs.Arranged.{all_append}
use Rattle.text_model.specs.Forms.{Form}
use Rattle.text_model.specs.Schemas.{Names}
use Rattle.text_model.specs.Printed.{ComesBefore, IsInOrder, printing_order}

-- the number is among them
abbrev pub has : List ℕ → ℕ → Bool
has [] q = false
has (n ∷ ns) q = (n == q) || has ns q

-- no number stands twice
abbrev pub AreApart : List ℕ → Type 0
AreApart [] = Unit {0}
AreApart (n ∷ ns) = (has ns n ≡ false) × AreApart ns

pub true_false : (b : Bool) → b ≡ true → b ≡ false → ⊥
true_false b e f = let x : true ≡ false = sym e ∙ f in cc

has_filter : (test : ℕ → Bool) (ns : List ℕ) (q : ℕ) → has (filter test ns) q ≡ (test q && has ns q)
has_filter test [] q = sym (and-false (test q))
has_filter test (n ∷ ns) q = by (test n) refl (eqb_tells n q) (has_filter test ns q) where
  by : (b : Bool) → test n ≡ b → (((n == q) ≡ true) × (n ≡ q)) ⊎ (((n == q) ≡ false) × (n ≡ q → ⊥)) → has (filter test ns) q ≡ (test q && has ns q) → has (cond (test n) (n ∷ filter test ns) (filter test ns)) q ≡ (test q && ((n == q) || has ns q))
  by true e (inl h) later =
      ap (λ b. has (cond b (n ∷ filter test ns) (filter test ns)) q) e
      ∙ ap (λ b. b || has (filter test ns) q) h.0
      ∙ sym (ap (λ b. b && ((n == q) || has ns q)) (sym (ap test h.1) ∙ e) ∙ ap (λ b. b || has ns q) h.0)
  by true e (inr h) later =
      ap (λ b. has (cond b (n ∷ filter test ns) (filter test ns)) q) e
      ∙ ap (λ b. b || has (filter test ns) q) h.0 ∙ later ∙ sym (ap (λ b. test q && (b || has ns q)) h.0)
  by false e (inl h) later =
      ap (λ b. has (cond b (n ∷ filter test ns) (filter test ns)) q) e
      ∙ later ∙ ap (λ b. b && has ns q) (sym (ap test h.1) ∙ e) ∙ sym (ap (λ b. b && ((n == q) || has ns q)) (sym (ap test h.1) ∙ e))
  by false e (inr h) later =
      ap (λ b. has (cond b (n ∷ filter test ns) (filter test ns)) q) e
      ∙ later ∙ sym (ap (λ b. test q && (b || has ns q)) h.0)

pub has_here : (n : ℕ) (ns : List ℕ) → has (n ∷ ns) n ≡ true
has_here n ns = ap (λ b. b || has ns n) (eq-eqb n n refl)

has_append : (a b : List ℕ) (q : ℕ) → has (a ++ b) q ≡ (has a q || has b q)
has_append [] b q = refl
has_append (n ∷ a) b q = ap (λ t. (n == q) || t) (has_append a b q) ∙ sym (or_assoc (n == q) (has a q) (has b q))

has_below : (a k q : ℕ) → q < a → has (count_from a k) q ≡ false
has_below a zero q h = refl
has_below a (suc k) q h = elim (eqb_tells a q) [
  | inl e ↦ absurd (omega (arith, e.1))
  | inr e ↦ or_from (a == q) (has (count_from (suc a) k) q) e.0 (has_below (suc a) k q (omega arith))
]

has_within : (a k q : ℕ) → a ≤ q → q < a + k → has (count_from a k) q ≡ true
has_within a zero q h l = absurd (omega arith)
has_within a (suc k) q h l = by (eqb_tells a q) (λ le. has_within (suc a) k q le (omega arith)) where
  by : (((a == q) ≡ true) × (a ≡ q)) ⊎ (((a == q) ≡ false) × (a ≡ q → ⊥)) → (suc a ≤ q → has (count_from (suc a) k) q ≡ true) → ((a == q) || has (count_from (suc a) k) q) ≡ true
  by (inl e) later = ap (λ b. b || has (count_from (suc a) k) q) e.0
  by (inr e) later = ap (λ b. b || has (count_from (suc a) k) q) e.0 ∙ later (omega (arith, e.1))

apart_count : (a k : ℕ) → AreApart (count_from a k)
apart_count a zero = tt
apart_count a (suc k) = (has_below (suc a) k a (omega arith), apart_count (suc a) k)

apart_filter : (test : ℕ → Bool) (ns : List ℕ) → AreApart ns → AreApart (filter test ns)
apart_filter test [] h = tt
apart_filter test (n ∷ ns) h = by (test n) refl (apart_filter test ns h.1) where
  by : (b : Bool) → test n ≡ b → AreApart (filter test ns) → AreApart (cond (test n) (n ∷ filter test ns) (filter test ns))
  by true e later =
      subst (λ b. AreApart (cond b (n ∷ filter test ns) (filter test ns))) (sym e) (has_filter test ns n ∙ ap (λ b. test n && b) h.0 ∙ and-false (test n), later)
  by false e later = subst (λ b. AreApart (cond b (n ∷ filter test ns) (filter test ns))) (sym e) later

apart_append : (a b : List ℕ) → AreApart a → AreApart b → ((q : ℕ) → has a q ≡ true → has b q ≡ false) → AreApart (a ++ b)
apart_append [] b h k other = k
apart_append (n ∷ a) b h k other =
    (has_append a b n ∙ or_from (has a n) (has b n) h.0 (other n (has_here n a)), apart_append a b h.1 k (λ q e. other q (or_right (n == q) (has a q) e)))

abbrev pub InRange : ℕ → Type 0
InRange n = (0 < n) × (n < 2 ^ 29)

pub in_numbers : (q : ℕ) → InRange q → has field_numbers q ≡ true
unfolding field_numbers
in_numbers q h = has_within 1 (2 ^ 29 - 1) q (omega arith) (omega arith)

apart_numbers : AreApart field_numbers
unfolding field_numbers
apart_numbers = apart_count 1 (2 ^ 29 - 1)

-- ---- the order

abbrev Ascends : List ℕ → Type 0
Ascends [] = Unit {0}
Ascends (n ∷ ns) = AllByRecursion (λ q. n < q) ns × Ascends ns

above_count : (n a k : ℕ) → n < a → AllByRecursion (λ q. n < q) (count_from a k)
above_count n a zero h = tt
above_count n a (suc k) h = (h, above_count n (suc a) k (omega arith))

ascends_count : (a k : ℕ) → Ascends (count_from a k)
ascends_count a zero = tt
ascends_count a (suc k) = (above_count a (suc a) k (omega arith), ascends_count (suc a) k)

ascending_numbers : Ascends field_numbers
unfolding field_numbers
ascending_numbers = ascends_count 1 (2 ^ 29 - 1)

all_filter : (P : ℕ → Type 0) (test : ℕ → Bool) (ns : List ℕ) → AllByRecursion P ns → AllByRecursion P (filter test ns)
all_filter P test [] h = tt
all_filter P test (n ∷ ns) h = by (test n) (all_filter P test ns h.1) where
  by : (b : Bool) → AllByRecursion P (filter test ns) → AllByRecursion P (cond b (n ∷ filter test ns) (filter test ns))
  by true later = (h.0, later)
  by false later = later

ascends_filter : (test : ℕ → Bool) (ns : List ℕ) → Ascends ns → Ascends (filter test ns)
ascends_filter test [] h = tt
ascends_filter test (n ∷ ns) h = by (test n) (ascends_filter test ns h.1) where
  by : (b : Bool) → Ascends (filter test ns) → Ascends (cond b (n ∷ filter test ns) (filter test ns))
  by true later = (all_filter (λ q. n < q) test ns h.0, later)
  by false later = later

passed : (test : ℕ → Bool) (ns : List ℕ) → AllByRecursion (λ n. test n ≡ true) (filter test ns)
passed test [] = tt
passed test (n ∷ ns) = by (test n) refl (passed test ns) where
  by : (b : Bool) → test n ≡ b → AllByRecursion (λ n. test n ≡ true) (filter test ns) → AllByRecursion (λ n. test n ≡ true) (cond b (n ∷ filter test ns) (filter test ns))
  by true e later = (e, later)
  by false e later = later

module _ (type : ℕ → Option Field) where
  abbrev AreAlike : Bool → List ℕ → Type 0
  AreAlike b ns = AllByRecursion (λ n. is_declared (type n) ≡ b) ns

  smaller_first : (b : Bool) (n : ℕ) (ns : List ℕ) → is_declared (type n) ≡ b → AreAlike b ns → AllByRecursion (λ q. n < q) ns → AllByRecursion (ComesBefore type n) ns
  smaller_first b n [] e h l = tt
  smaller_first b n (q ∷ ns) e h l = (inr (e ∙ sym h.0, l.0), smaller_first b n ns e h.1 l.1)

  alike_in_order : (b : Bool) (ns : List ℕ) → AreAlike b ns → Ascends ns → IsInOrder type ns
  alike_in_order b [] h l = tt
  alike_in_order b (n ∷ ns) h l = (smaller_first b n ns h.0 h.1 l.0, alike_in_order b ns h.1 l.1)

  declared_first : (n : ℕ) (ns : List ℕ) → is_declared (type n) ≡ true → AreAlike false ns → AllByRecursion (ComesBefore type n) ns
  declared_first n [] e h = tt
  declared_first n (q ∷ ns) e h = (inl (e, h.0), declared_first n ns e h.1)

  both_in_order : (a b : List ℕ) → AreAlike true a → AreAlike false b → IsInOrder type a → IsInOrder type b → IsInOrder type (a ++ b)
  both_in_order [] b h k i j = j
  both_in_order (n ∷ a) b h k i j = (all_append (ComesBefore type n) a b i.0 (declared_first n b h.0 k), both_in_order a b h.1 k i.1 j)

  not_declared : (ns : List ℕ) → AllByRecursion (λ n. not (is_declared (type n)) ≡ true) ns → AreAlike false ns
  not_declared [] h = tt
  not_declared (n ∷ ns) h = (not-true (is_declared (type n)) h.0, not_declared ns h.1)

  pub in_order : (form : Form) (names : Names) → form.as_declared ≡ false → IsInOrder type (printing_order form names type)
  in_order form names e =
      let declared = filter (λ n. is_declared (type n)) field_numbers in
      let others = filter (λ n. not (is_declared (type n))) field_numbers in
      let first = passed (λ n. is_declared (type n)) field_numbers in
      let last = not_declared others (passed (λ n. not (is_declared (type n))) field_numbers) in
      subst (λ b. IsInOrder type (cond b names.declared declared ++ others)) (sym e)
      (both_in_order declared others first last
      (alike_in_order true declared first (ascends_filter (λ n. is_declared (type n)) field_numbers ascending_numbers))
      (alike_in_order false others last (ascends_filter (λ n. not (is_declared (type n))) field_numbers ascending_numbers)))

-- of a list in which each declared field stands once
module _ (form : Form) (names : Names) (type : ℕ → Option Field) (once : (n : ℕ) → filter (λ q. q == n) names.declared ≡ cond (is_declared (type n)) (n ∷ []) []) where
  none_there : (q : ℕ) (ns : List ℕ) → filter (λ n. n == q) ns ≡ [] → has ns q ≡ false
  none_there q [] e = refl
  none_there q (n ∷ ns) e = by (n == q) refl (none_there q ns) where
    by : (b : Bool) → (n == q) ≡ b → (filter (λ n. n == q) ns ≡ [] → has ns q ≡ false) → ((n == q) || has ns q) ≡ false
    by true i later = absurd (let x : n ∷ filter (λ n. n == q) ns ≡ [] = sym (ap (λ b. cond b (n ∷ filter (λ n. n == q) ns) (filter (λ n. n == q) ns)) i) ∙ e in cc)
    by false i later = ap (λ b. b || has ns q) i ∙ later (sym (ap (λ b. cond b (n ∷ filter (λ n. n == q) ns) (filter (λ n. n == q) ns)) i) ∙ e)

  one_there : (q : ℕ) (ns : List ℕ) → filter (λ n. n == q) ns ≡ q ∷ [] → has ns q ≡ true
  one_there q [] e = cc
  one_there q (n ∷ ns) e = by (n == q) refl (one_there q ns) where
    by : (b : Bool) → (n == q) ≡ b → (filter (λ n. n == q) ns ≡ q ∷ [] → has ns q ≡ true) → ((n == q) || has ns q) ≡ true
    by true i later = ap (λ b. b || has ns q) i
    by false i later = ap (λ b. b || has ns q) i ∙ later (sym (ap (λ b. cond b (n ∷ filter (λ n. n == q) ns) (filter (λ n. n == q) ns)) i) ∙ e)

  abbrev AtMostOne : List ℕ → Type 0
  AtMostOne [] = Unit {0}
  AtMostOne (x ∷ []) = Unit {0}
  AtMostOne (x ∷ y ∷ xs) = ⊥

  empty_behind : (x : ℕ) (xs : List ℕ) → AtMostOne (x ∷ xs) → xs ≡ []
  empty_behind x [] h = refl
  empty_behind x (y ∷ xs) h = absurd h

  apart_once : (ns : List ℕ) → ((q : ℕ) → AtMostOne (filter (λ n. n == q) ns)) → AreApart ns
  apart_once [] h = tt
  apart_once (n ∷ ns) h = (here, apart_once ns there) where
    here : has ns n ≡ false
    here = none_there n ns (empty_behind n (filter (λ q. q == n) ns) (subst (λ b. AtMostOne (cond b (n ∷ filter (λ q. q == n) ns) (filter (λ q. q == n) ns))) (eq-eqb n n refl) (h n)))

    there : (q : ℕ) → AtMostOne (filter (λ n. n == q) ns)
    there q = by (n == q) refl where
      by : (b : Bool) → (n == q) ≡ b → AtMostOne (filter (λ n. n == q) ns)
      by true e = subst AtMostOne (sym (empty_behind n (filter (λ n. n == q) ns) (subst (λ b. AtMostOne (cond b (n ∷ filter (λ n. n == q) ns) (filter (λ n. n == q) ns))) e (h q)))) tt
      by false e = subst (λ b. AtMostOne (cond b (n ∷ filter (λ n. n == q) ns) (filter (λ n. n == q) ns))) e (h q)

  declared_has : (q : ℕ) → has names.declared q ≡ is_declared (type q)
  declared_has q = by (is_declared (type q)) refl where
    by : (b : Bool) → is_declared (type q) ≡ b → has names.declared q ≡ b
    by true e = one_there q names.declared (once q ∙ ap (λ b. cond b (q ∷ []) []) e)
    by false e = none_there q names.declared (once q ∙ ap (λ b. cond b (q ∷ []) []) e)

  declared_apart : AreApart names.declared
  declared_apart = apart_once names.declared (λ q. subst AtMostOne (sym (once q)) (by q (is_declared (type q)))) where
    by : (q : ℕ) (b : Bool) → AtMostOne (cond b (q ∷ []) [])
    by q true = tt
    by q false = tt

  abbrev others : List ℕ
  others = filter (λ n. not (is_declared (type n))) field_numbers

  abbrev ascending : List ℕ
  ascending = filter (λ n. is_declared (type n)) field_numbers

  first_has : (q : ℕ) → InRange q → has (cond form.as_declared names.declared ascending) q ≡ is_declared (type q)
  first_has q h = by form.as_declared where
    by : (b : Bool) → has (cond b names.declared ascending) q ≡ is_declared (type q)
    by true = declared_has q
    by false = has_filter (λ n. is_declared (type n)) field_numbers q ∙ ap (λ t. is_declared (type q) && t) (in_numbers q h) ∙ and-true (is_declared (type q))

  first_declared : (q : ℕ) → has (cond form.as_declared names.declared ascending) q ≡ true → is_declared (type q) ≡ true
  first_declared q = by form.as_declared where
    by : (b : Bool) → has (cond b names.declared ascending) q ≡ true → is_declared (type q) ≡ true
    by true e = sym (declared_has q) ∙ e
    by false e = (and_parts (is_declared (type q)) (has field_numbers q) (sym (has_filter (λ n. is_declared (type n)) field_numbers q) ∙ e)).0

  first_apart : AreApart (cond form.as_declared names.declared ascending)
  first_apart = by form.as_declared where
    by : (b : Bool) → AreApart (cond b names.declared ascending)
    by true = declared_apart
    by false = apart_filter (λ n. is_declared (type n)) field_numbers apart_numbers

  pub order_has : (q : ℕ) → InRange q → has (printing_order form names type) q ≡ true
  order_has q h =
      has_append (cond form.as_declared names.declared ascending) others q
      ∙ ap (λ t. t || has others q) (first_has q h)
      ∙ ap (λ t. is_declared (type q) || t) (has_filter (λ n. not (is_declared (type n))) field_numbers q ∙ ap (λ t. not (is_declared (type q)) && t) (in_numbers q h))
      ∙ ap (λ t. is_declared (type q) || t) (and-true (not (is_declared (type q)))) ∙ or-not_self (is_declared (type q))

  pub order_apart : AreApart (printing_order form names type)
  order_apart =
      apart_append (cond form.as_declared names.declared ascending) others first_apart (apart_filter (λ n. not (is_declared (type n))) field_numbers apart_numbers)
      (λ q e. has_filter (λ n. not (is_declared (type n))) field_numbers q ∙ ap (λ t. not t && has field_numbers q) (first_declared q e))

  -- each number that a field may have stands in it once
  pub order_once : (q : ℕ) → (0 < q) × (q < 2 ^ 29) → filter (λ n. n == q) (printing_order form names type) ≡ q ∷ []
  order_once q h = once_of (printing_order form names type) order_apart (order_has q h) where
    not_there : (ns : List ℕ) → has ns q ≡ false → filter (λ n. n == q) ns ≡ []
    not_there [] e = refl
    not_there (n ∷ ns) e =
        let p = or_parts (n == q) (has ns q) e in
        ap (λ b. cond b (n ∷ filter (λ n. n == q) ns) (filter (λ n. n == q) ns)) p.0 ∙ not_there ns p.1

    once_of : (ns : List ℕ) → AreApart ns → has ns q ≡ true → filter (λ n. n == q) ns ≡ q ∷ []
    once_of [] h e = cc
    once_of (n ∷ ns) h e = by (eqb_tells n q) (once_of ns h.1) where
      by : (((n == q) ≡ true) × (n ≡ q)) ⊎ (((n == q) ≡ false) × (n ≡ q → ⊥)) → (has ns q ≡ true → filter (λ n. n == q) ns ≡ q ∷ []) → cond (n == q) (n ∷ filter (λ n. n == q) ns) (filter (λ n. n == q) ns) ≡ q ∷ []
      by (inl i) later =
          ap (λ b. cond b (n ∷ filter (λ n. n == q) ns) (filter (λ n. n == q) ns)) i.0
          ∙ ap (λ xs. n ∷ xs) (not_there ns (ap (has ns) (sym i.1) ∙ h.0)) ∙ ap (λ m. m ∷ []) i.1
      by (inr i) later =
          ap (λ b. cond b (n ∷ filter (λ n. n == q) ns) (filter (λ n. n == q) ns)) i.0
          ∙ later (ap (λ b. b || has ns q) (sym i.0) ∙ e)
