-- What values show has the order of the values.
use mathlib.Core.Path.{fun_ext}
use Rattle.std.proofs.Common.{◌≡◌, ◌⊎◌, inl, inr, ◌+◌, ◌<◌, Bool, true, false, Ordering, Less, Equal, Greater, not, ◌&&◌, cond, List, [], ◌∷◌, map, length, slice_index_or, ap, sym, refl, ◌∙◌, arith}
use Rattle.std.proofs.lemmas.Bool.{false≢true}
use Rattle.std.proofs.lemmas.Cmp.{alike_right}
use Rattle.std.proofs.lemmas.List.{get_or-map, length-map}
use Rattle.std.specs.Cmp.{IsTotalOrder}
use Rattle.std.specs.List.{filter}
use Rattle.std.specs.List.Sorted.{IsSortedBy, IsStableBy, ties}
use Rattle.std.specs.Ordering.{is_lt, ordering_reverse}

tied_equal : (r s : Ordering) → s ≡ ordering_reverse r → not (is_lt r) && not (is_lt s) ≡ true → r ≡ Equal
tied_equal Less s e h = absurd (false≢true h)
tied_equal Equal s e h = refl
tied_equal Greater s e h = absurd (false≢true (sym (ap (λ q. not (is_lt q)) e) ∙ h))

module _ {X Y : Type 0} (view : X → Y) where
  filter_viewed : (p : Y → Bool) (xs : List X) → filter p (map view xs) ≡ map view (filter (λ x. p (view x)) xs)
  filter_viewed p [] = refl
  filter_viewed p (x ∷ xs) = by (p (view x)) (filter_viewed p xs) where
    by : (b : Bool) → filter p (map view xs) ≡ map view (filter (λ x. p (view x)) xs)
        → cond b (view x ∷ filter p (map view xs)) (filter p (map view xs)) ≡ map view (cond b (x ∷ filter (λ x. p (view x)) xs) (filter (λ x. p (view x)) xs))
    by true rest = ap (λ zs. view x ∷ zs) rest
    by false rest = rest

  -- an item that passes, or none does
  seek : (p : X → Bool) (xs : List X) → ((x : X) × (p x ≡ true)) ⊎ (filter p xs ≡ [])
  seek p [] = inr refl
  seek p (x ∷ xs) = by (p x) refl (seek p xs) where
    by : (b : Bool) → p x ≡ b → ((x : X) × (p x ≡ true)) ⊎ (filter p xs ≡ []) → ((x : X) × (p x ≡ true)) ⊎ (cond b (x ∷ filter p xs) (filter p xs) ≡ [])
    by true e rest = inl (x, e)
    by false e (inl found) = inl found
    by false e (inr none) = inr none

  pub ascend_viewed : (lt : Y → Y → Bool) (xs : List X) → IsSortedBy (λ a b. lt (view a) (view b)) xs → IsSortedBy lt (map view xs)
  ascend_viewed lt [] h = λ k d low high. absurd (omega (arith, high))
  ascend_viewed lt (x ∷ xs) h = λ k d low high.
      let ys : List X = x ∷ xs in
      let above : k + 1 < length ys = omega (arith, high, length-map ys view) in
      let below : k < length ys = omega (arith, above) in
      ap (λ b. lt b (slice_index_or (map view ys) k d)) (get_or-map view ys (k + 1) x d above)
      ∙ ap (λ b. lt (view (slice_index_or ys (k + 1) x)) b) (get_or-map view ys k x d below)
      ∙ h k x low above

  module _ {K : Type 0} (R : K → K → Ordering) (order : IsTotalOrder R) (key : Y → K) where
    abbrev less : Y → Y → Bool
    less a b = is_lt (R (key a) (key b))

    alike : (x y z : Y) → ties less x y ≡ true → ties less x z ≡ ties less y z
    alike x y z h =
        let e = tied_equal (R (key x) (key y)) (R (key y) (key x)) (order.antisymm (key y) (key x)) h in
        ap (λ r. not (is_lt r) && not (is_lt (R (key z) (key x)))) (order.congr (key x) (key y) (key z) e)
        ∙ ap (λ r. not (is_lt (R (key y) (key z))) && not (is_lt r)) (alike_right order (key x) (key y) (key z) e)

    pub stable_viewed : (xs ys : List X) → IsStableBy (λ a b. less (view a) (view b)) xs ys → IsStableBy less (map view xs) (map view ys)
    stable_viewed xs ys h = λ y. by y (seek (λ x. ties less y (view x)) xs) (seek (λ x. ties less y (view x)) ys) where
      found : (y : Y) (x : X) → ties less y (view x) ≡ true → filter (ties less y) (map view ys) ≡ filter (ties less y) (map view xs)
      found y x e =
          let same : (λ (z : X). ties less y (view z)) ≡ (λ z. ties less (view x) (view z)) = fun_ext (λ z. alike y (view x) (view z) e) in
          filter_viewed (ties less y) ys ∙ ap (λ p. map view (filter p ys)) same ∙ ap (map view) (h x) ∙ sym (ap (λ p. map view (filter p xs)) same) ∙ sym (filter_viewed (ties less y) xs)

      by : (y : Y) → ((x : X) × (ties less y (view x) ≡ true)) ⊎ (filter (λ x. ties less y (view x)) xs ≡ []) → ((x : X) × (ties less y (view x) ≡ true)) ⊎ (filter (λ x. ties less y (view x)) ys ≡ [])
          → filter (ties less y) (map view ys) ≡ filter (ties less y) (map view xs)
      by y (inl f) other = found y f.0 f.1
      by y (inr none) (inl f) = found y f.0 f.1
      by y (inr none) (inr none_left) = filter_viewed (ties less y) ys ∙ ap (map view) (none_left ∙ sym none) ∙ sym (filter_viewed (ties less y) xs)
