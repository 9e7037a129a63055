-- The first of some views of a list is the first of other views of it.
use Rattle.std.proofs.Common.{◌≡◌, ◌<◌, ℕ, List, [], ◌∷◌, Option, Some, None, map, length, get_or, sym, ◌∙◌, subst, arith}
use Rattle.std.proofs.Math.ListN.{length-map}
use Rattle.std.proofs.lemmas.List as lists
use Rattle.reflect_tables.specs.Finding.{IsFirst}
use Rattle.reflect_tables.specs.Index.{KeyType, IsIndex}

module _ {X Y Z : Type 0} (g : X → Y) (h : X → Z) (Q : Y → Type 0) (P : Z → Type 0) (to : (x : X) → Q (g x) → P (h x)) (back : (x : X) → P (h x) → Q (g x)) where
  pub first_as : (xs : List X) (r : Option ℕ) → IsFirst Q (map g xs) r → IsFirst P (map h xs) r
  first_as [] (Some i) q = absurd (omega (arith, q.0))
  first_as [] None q = λ k d lt. absurd (omega (arith, lt))
  first_as (x ∷ xs) (Some i) q =
      let zs = x ∷ xs in
      let gs : length (map g zs) ≡ length zs = length-map zs g in
      let hs : length (map h zs) ≡ length zs = length-map zs h in
      let lt : i < length zs = omega (arith, q.0, gs) in (
        omega (arith, lt, hs),
        (
          λ d. subst P (sym (lists.get_or-map h zs i x d lt)) (to (get_or zs i x) (subst Q (lists.get_or-map g zs i x (g x) lt) (q.1.0 (g x)))),
          λ k d low less p.
              let below : k < length zs = omega (arith, lt, less) in
              q.1.1 k (g x) low less (subst Q (sym (lists.get_or-map g zs k x (g x) below)) (back (get_or zs k x) (subst P (lists.get_or-map h zs k x d below) p))),
        ),
      )
  first_as (x ∷ xs) None q = λ k d lt p.
      let zs = x ∷ xs in
      let gs : length (map g zs) ≡ length zs = length-map zs g in
      let hs : length (map h zs) ≡ length zs = length-map zs h in
      let below : k < length zs = omega (arith, lt, hs) in
      q k (g x) (omega (arith, below, gs)) (subst Q (sym (lists.get_or-map g zs k x (g x) below)) (back (get_or zs k x) (subst P (lists.get_or-map h zs k x d below) p)))

-- what a search for a key answers of the views of the items
pub looked_up : {X Z : Type 0} (g : X → KeyType) (h : X → Z) (P : Z → Type 0) (key wanted : KeyType) → key ≡ wanted → ((x : X) → g x ≡ wanted → P (h x)) → ((x : X) → P (h x) → g x ≡ wanted)
    → (xs ys : List X) (ps qs : List ℕ) (r : Option ℕ) → ys ≡ xs → qs ≡ ps → IsIndex (map g xs) ps → (IsIndex (map g ys) qs → IsFirst (λ k. k ≡ key) (map g ys) r) → IsFirst P (map h xs) r
looked_up g h P key wanted same to back xs ys ps qs r as_xs as_ps is answer =
    let here : IsIndex (map g ys) qs = subst (λ l. IsIndex (map g l) qs) (sym as_xs) (subst (λ l. IsIndex (map g xs) l) (sym as_ps) is) in
    first_as g h (λ k. k ≡ key) P (λ x e. to x (e ∙ same)) (λ x p. back x p ∙ sym same) xs r
    (subst (λ l. IsFirst (λ k. k ≡ key) (map g l) r) as_xs (answer here))
