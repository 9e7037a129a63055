-- The last number tells of all where it is lower, and else the search does.
use Rattle.std.proofs.Common.{◌≡◌, ◌<◌, ◌≤◌, ℕ, ◌-◌, List, Result, Ok, Err, IfOk, IfErr, length, get_or, sym, subst, le_refl, ⊎_elim, arith, tests, nat_cmp, Less, Greater}
use Rattle.std.specs.List.{HoldsAt}
use Rattle.std.specs.List.Sorted.{IsBinarySearchResult, IsPartitionPoint}
use Rattle.std.specs.Ordering.{ordering_index}
use Rattle.std.proofs.lemmas.Bool.Decides.{eqb_tells}
use Rattle.std.proofs.lemmas.Cmp.{ranked}
use Rattle.std.proofs.lemmas.Map.Lookups.{exact_unsigned}
use Rattle.reflect_entries.specs.Entries.{Ascend}
use Rattle.reflect_entries.proofs.entries.place.Goals as goal

module _ (ks : List ℕ) (n : ℕ) where
  all_below : HoldsAt (λ k. k < n) ks (length ks - 1) → Ascend ks → (k d : ℕ) → k < length ks → get_or ks k d < n
  all_below last up k d lt = ⊎_elim (λ t. rw t.1 (last d)) (λ t. omega (arith, up k (length ks - 1) d (omega (arith, t.1)) (omega arith), last d)) (eqb_tells k (length ks - 1))

  equal_at : (r : Result ℕ ℕ) → IsBinarySearchResult (λ k. nat_cmp k n) ks r → IfOk r (HoldsAt (λ k. k ≡ n) ks)
  equal_at (Ok i) h = λ d. exact_unsigned _ _ (h d)
  equal_at (Err i) h = tt

  rank : (a b : ℕ) → a ≤ b → ordering_index (nat_cmp a n) ≤ ordering_index (nat_cmp b n)
  rank a b le = grind (arith, tests)

  not_above : Ascend ks → (i j d : ℕ) → i ≤ j → j < length ks → get_or ks i d ≤ get_or ks j d
  not_above up i j d le lt = ⊎_elim (λ t. rw t.1 (le_refl _)) (λ t. omega (arith, up i j d (omega (arith, t.1)) lt)) (eqb_tells i j)

  parted_at : (r : Result ℕ ℕ) → IsBinarySearchResult (λ k. nat_cmp k n) ks r → Ascend ks → IfErr r (IsPartitionPoint (λ k. k < n) (λ k. n < k) ks)
  parted_at (Ok i) h up = tt
  parted_at (Err i) h up =
      let parts = h (λ a b d le lt. rank (get_or ks a d) (get_or ks b d) (not_above up a b d le lt)) in
      (λ k d a b. ranked (get_or ks k d) n Less (sym (parts.0 k d a b)), λ k d a b. ranked (get_or ks k d) n Greater (sym (parts.1 k d a b)))

pub returns-in-Some-clause-between : goal.returns-in-Some-clause-between
returns-in-Some-clause-between c = λ up.
    let item = c.in-Some.ensures.item.3.1 in
    let below = all_below c.args.numbers.now c.args.number (λ d. subst (λ e. e < c.args.number) (item d) c.if-last-number.true) up in
    (λ k d a b. below k d b, λ k d a b. absurd (omega arith))

pub returns-in_default-clause-found : goal.returns-in_default-clause-found
returns-in_default-clause-found c = equal_at c.args.numbers.now c.args.number c.binary_search.result c.binary_search.ensures.position

pub returns-in_default-clause-between : goal.returns-in_default-clause-between
returns-in_default-clause-between c = parted_at c.args.numbers.now c.args.number c.binary_search.result c.binary_search.ensures.position
