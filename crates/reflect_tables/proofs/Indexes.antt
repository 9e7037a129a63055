-- What sorted places tell of the items of a key.
use Rattle.std.proofs.Common.{◌≡◌, ◌≢◌, ◌<◌, ℕ, suc, zero, ◌+◌, List, Result, Ok, Err, Some, None, IfOk, IfErr, All, HoldsAt, length, get_or, sym, ap, ◌∙◌, subst, ⊎_elim, arith, Less, Equal, true≢false}
use Rattle.std.specs.List.Sorted.{IsBinarySearchResult, IsSortedBy, IsNonDecreasingBy}
use Rattle.std.specs.Ordering.{is_lt, is_eq, ordering_reverse, ordering_index, int_cmp, nat_cmp}
use Rattle.std.specs.Cmp.{IsTotalOrder}
use Rattle.std.specs.Cmp.Lexicographic.{slice_cmp}
use Rattle.std.proofs.lemmas.Bool.Decides.{eqb_tells, leb_tells}
use Rattle.std.proofs.lemmas.Cmp.{int_cmp_total, nat_list_cmp_total, on_total, then_total, tied_itself}
use Rattle.std.proofs.lemmas.List.{get_or_default}
use Rattle.std.proofs.lemmas.List.Sorted.{searchable_from_sorted}
use Rattle.std.proofs.lemmas.Map.Lookups.{CmpEqualImpliesEq, exact_signed, exact_bytes, exact_pairs}
use Rattle.reflect_tables.specs.Finding.{IsFirst}
use Rattle.reflect_tables.specs.Index.{KeyType, key_order, key_at, no_key, IsAscending, IsIndex}

pub key_order_total : IsTotalOrder key_order
key_order_total = then_total (on_total (λ (k : KeyType). k.0) int_cmp_total) (on_total (λ (k : KeyType). k.1) nat_list_cmp_total)

-- keys that neither is below are one
pub exact : CmpEqualImpliesEq key_order
exact = exact_pairs int_cmp (slice_cmp nat_cmp) exact_signed exact_bytes

-- no key is below itself
apart : (a b : KeyType) → key_order a b ≡ Less → a ≡ b → ⊥
apart a b less same = true≢false (sym (ap is_lt less) ∙ ap is_lt (subst (λ k. key_order a k ≡ Equal) same (tied_itself key_order_total a)))

module _ (keys : List KeyType) (places : List ℕ) (up : IsAscending keys places) where
  -- each place has a lower key than those behind it
  far : (i j d : ℕ) → i < j → j < length places → key_order (key_at keys (get_or places i d)) (key_at keys (get_or places j d)) ≡ Less
  far i zero d lt below = absurd (omega (arith, lt))
  far i (suc j) d lt below =
      let step : key_order (key_at keys (get_or places j d)) (key_at keys (get_or places (suc j) d)) ≡ Less =
      subst (λ k. key_order (key_at keys (get_or places j d)) (key_at keys (get_or places k d)) ≡ Less) (omega arith) (up j d (omega arith)) in
      ⊎_elim
      (λ t. subst (λ k. key_order (key_at keys (get_or places k d)) (key_at keys (get_or places (suc j) d)) ≡ Less) (sym t.1) step)
      (λ t. key_order_total.trans (key_at keys (get_or places i d)) (key_at keys (get_or places j d)) (key_at keys (get_or places (suc j) d)) (far i j d (omega (arith, lt, t.1)) (omega arith)) step)
      (eqb_tells i j)

  -- two places of one key are one
  pub one : (i j d : ℕ) → i < length places → j < length places → key_at keys (get_or places i d) ≡ key_at keys (get_or places j d) → get_or places i d ≡ get_or places j d
  one i j d li lj same =
      ⊎_elim
      (λ t. ap (λ k. get_or places k d) t.1)
      (λ t. ⊎_elim
      (λ s. absurd (apart (key_at keys (get_or places j d)) (key_at keys (get_or places i d)) (far j i d (omega (arith, s.1, t.1)) li) (sym same)))
      (λ s. absurd (apart (key_at keys (get_or places i d)) (key_at keys (get_or places j d)) (far i j d (omega (arith, s.1, t.1)) lj) same))
      (leb_tells j i))
      (eqb_tells i j)

  sorted : IsSortedBy (λ a b. is_lt (key_order (key_at keys a) (key_at keys b))) places
  sorted k d low high = ap is_lt (key_order_total.antisymm (key_at keys (get_or places (k + 1) d)) (key_at keys (get_or places k d)) ∙ ap ordering_reverse (up k d high))

  rises : (key : KeyType) → IsNonDecreasingBy (λ p. ordering_index (key_order (key_at keys p) key)) places
  rises key = searchable_from_sorted key_order_total (λ p. key_at keys p) places key sorted

  pub missing : (key : KeyType) (r : Result ℕ ℕ) → IsBinarySearchResult (λ p. key_order (key_at keys p) key) places r → IfErr r (λ at. All (λ p. key_at keys p ≢ key) places)
  missing key (Ok i) h = tt
  missing key (Err i) h = let parts = h (rises key) in
      λ k d lt same. ⊎_elim
      (λ t. true≢false (sym (ap is_eq (subst (λ q. key_order (key_at keys (get_or places k d)) q ≡ Equal) same (tied_itself key_order_total (key_at keys (get_or places k d))))) ∙ ap is_eq (parts.1 k d t.1 lt)))
      (λ t. apart (key_at keys (get_or places k d)) key (parts.0 k d (omega arith) (omega (arith, t.1))) same)
      (leb_tells i k)

pub found : (keys : List KeyType) (places : List ℕ) (key : KeyType) (r : Result ℕ ℕ) → IsBinarySearchResult (λ p. key_order (key_at keys p) key) places r → IfOk r (HoldsAt (λ p. key_at keys p ≡ key) places)
found keys places key (Ok i) h = λ d. exact (key_at keys (get_or places i d)) key (h d)
found keys places key (Err i) h = tt

module _ (keys : List KeyType) (places : List ℕ) (key : KeyType) (is : IsIndex keys places) where
  -- the key at a place, with any element for one that is not there
  there : (k : ℕ) (d : KeyType) → k < length keys → get_or keys k d ≡ key → key_at keys k ≡ key
  there k d lt same = get_or_default keys k no_key d lt ∙ same

  pub first_of : (i p : ℕ) → i < length places → p ≡ get_or places i p → HoldsAt (λ q. key_at keys q ≡ key) places i → IsFirst (λ k. k ≡ key) keys (Some p)
  first_of i p lt at same =
      let within : p < length keys = subst (λ q. q < length keys) (sym at) (is.0 i p lt) in
      let here : key_at keys p ≡ key = ap (key_at keys) at ∙ same p in (
        within,
        (
          λ d. get_or_default keys p d no_key within ∙ here,
          λ k d low less eq.
              let inside : k < length keys = omega (arith, within, less) in
              is.1.1 k inside (λ j e below as_k le.
              let as_one : get_or places j e ≡ get_or places i e = one keys places is.1.0 j i e below lt (as_k ∙ (there k d inside eq ∙ sym (same e))) in
              let as_p : get_or places i e ≡ p = get_or_default places i e p lt ∙ sym at in
              absurd (omega (arith, less, le, as_one, as_p))),
        ),
      )

  pub none_of : All (λ q. key_at keys q ≢ key) places → IsFirst (λ k. k ≡ key) keys None
  none_of none = λ k d lt same. is.1.1 k lt (λ i e below as_k le. none i e below (as_k ∙ there k d lt same))
