-- A list has one order by a test that leaves what ties as it stood.
use Rattle.std.proofs.Common.{◌≡◌, ◌∙◌, ◌<◌, ◌≤◌, ◌&&◌, ℕ, suc, Bool, true, false, not, cond, List, [], ◌∷◌, length, get_or, refl, sym, ap, arith}
use Rattle.std.proofs.lemmas.Bool.{false≢true}
use Rattle.std.proofs.lemmas.List.Sorted.{sorted_far}
use Rattle.std.specs.Cmp.{IsStrictWeakOrder}
use Rattle.std.specs.List.{filter}
use Rattle.std.specs.List.Sorted.{IsSortedBy, IsStableBy, ties}

not_empty : {X : Type 0} (x : X) (xs : List X) → x ∷ xs ≡ [] → ⊥
not_empty x xs e = absurd (cc)

tails : {X : Type 0} (b : Bool) (x : X) (xs ys : List X) → cond b (x ∷ xs) xs ≡ cond b (x ∷ ys) ys → xs ≡ ys
tails true x xs ys e = cc
tails false x xs ys e = e

module _ {X : Type 0} (less : X → X → Bool) where
  -- none of these is less than this one
  abbrev AreNotLess : X → List X → Type 0
  AreNotLess x [] = Unit {0}
  AreNotLess x (y ∷ ys) = (less y x ≡ false) × AreNotLess x ys

  -- none is less than one in front of it
  abbrev Ascend : List X → Type 0
  Ascend [] = Unit {0}
  Ascend (x ∷ xs) = AreNotLess x xs × Ascend xs

  not_less : (x : X) (xs : List X) → ((k : ℕ) → k < length xs → less (get_or xs k x) x ≡ false) → AreNotLess x xs
  not_less x [] h = tt
  not_less x (y ∷ ys) h = (h 0 (omega arith), not_less x ys (λ k p. h (suc k) (omega arith)))

  ascend : (xs : List X) → ((i j : ℕ) (d : X) → i ≤ j → j < length xs → less (get_or xs j d) (get_or xs i d) ≡ false) → Ascend xs
  ascend [] h = tt
  ascend (x ∷ xs) h = (
    not_less x xs (λ k p. h 0 (suc k) x (omega arith) (omega arith)),
    ascend xs (λ i j d p q. h (suc i) (suc j) d (omega arith) (omega arith)),
  )

  module _ (order : IsStrictWeakOrder less) where
    irreflexive : (x : X) → less x x ≡ false
    irreflexive x = by (less x x) refl where
      by : (b : Bool) → less x x ≡ b → less x x ≡ false
      by true e = order.one_way x x e
      by false e = e

    with_first : (x : X) (xs : List X) → filter (ties less x) (x ∷ xs) ≡ x ∷ filter (ties less x) xs
    with_first x xs = λ i. cond (not (irreflexive x i) && not (irreflexive x i)) (x ∷ filter (ties less x) xs) (filter (ties less x) xs)

    -- what is less than this one ties with none that is not
    none_tie : (x y : X) → less y x ≡ true → (xs : List X) → AreNotLess x xs → filter (ties less y) xs ≡ []
    none_tie x y below [] h = refl
    none_tie x y below (v ∷ xs) h = by (less y v) refl (none_tie x y below xs h.1) where
      by : (b : Bool) → less y v ≡ b → filter (ties less y) xs ≡ []
          → cond (not b && not (less v y)) (v ∷ filter (ties less y) xs) (filter (ties less y) xs) ≡ []
      by true e rest = rest
      by false e rest = absurd (false≢true (sym (order.chain y v x e h.0) ∙ below))

    -- where one has its ties in an ascending list, it is not less than the first there
    first_not_less : (x y : X) (xs ys : List X) → AreNotLess y ys → filter (ties less x) (x ∷ xs) ≡ filter (ties less x) (y ∷ ys) → less x y ≡ false
    first_not_less x y xs ys up same = by (less x y) refl where
      by : (b : Bool) → less x y ≡ b → less x y ≡ false
      by true e = absurd (not_empty x (filter (ties less x) xs) (sym (with_first x xs) ∙ same ∙ none_tie y x e (y ∷ ys) (irreflexive y, up)))
      by false e = e

    -- and where neither is less, it is the first
    first_is : (x y : X) (xs ys : List X) → less x y ≡ false → less y x ≡ false → filter (ties less x) (x ∷ xs) ≡ filter (ties less x) (y ∷ ys) → x ≡ y
    first_is x y xs ys p q same =
        let tied : filter (ties less x) (y ∷ ys) ≡ y ∷ filter (ties less x) ys = λ i. cond (not (p i) && not (q i)) (y ∷ filter (ties less x) ys) (filter (ties less x) ys) in
        let firsts : x ∷ filter (ties less x) xs ≡ y ∷ filter (ties less x) ys = sym (with_first x xs) ∙ same ∙ tied in
        cc firsts

    one_order : (xs ys : List X) → Ascend xs → Ascend ys → ((z : X) → filter (ties less z) xs ≡ filter (ties less z) ys) → xs ≡ ys
    one_order [] [] up rise same = refl
    one_order [] (y ∷ ys) up rise same = absurd (not_empty y (filter (ties less y) ys) (sym (with_first y ys) ∙ sym (same y)))
    one_order (x ∷ xs) [] up rise same = absurd (not_empty x (filter (ties less x) xs) (sym (with_first x xs) ∙ same x))
    one_order (x ∷ xs) (y ∷ ys) up rise same =
        let e : x ≡ y = first_is x y xs ys (first_not_less x y xs ys rise.0 (same x)) (first_not_less y x ys xs up.0 (sym (same y))) (same x) in
        let others : xs ≡ ys = one_order xs ys up.1 rise.1
        (λ z. tails (ties less z x) x (filter (ties less z) xs) (filter (ties less z) ys) (same z ∙ ap (λ v. filter (ties less z) (v ∷ ys)) (sym e))) in
        λ i. e i ∷ others i

    pub one_sorted : (found xs ys : List X) → IsSortedBy less xs → IsStableBy less found xs → IsSortedBy less ys → IsStableBy less found ys → xs ≡ ys
    one_sorted found xs ys up same rise alike =
        one_order xs ys (ascend xs (sorted_far less order xs up)) (ascend ys (sorted_far less order ys rise)) (λ z. same z ∙ sym (alike z))
