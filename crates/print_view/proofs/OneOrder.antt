-- Lists that are sorted by numbers belong together one by one where they do so under each number.
use Rattle.std.proofs.Common.{◌≡◌, ◌⊎◌, inl, inr, ◌<◌, ◌≤◌, ℕ, suc, ◌==◌, Bool, true, false, cond, List, [], ◌∷◌, refl, sym, ap, ◌∙◌, subst, arith}
use Rattle.print_parts.specs.Pairwise.{Pairwise}
use Rattle.print_view.proofs.Sorting.{Rises, all_zip, none_of, of_number}

module _ {X : Type 0} (key : X → ℕ) (R : X → X → Type 0) (same : (x y : X) → R x y → key x ≡ key y) where
  abbrev of : ℕ → List X → List X
  of n xs = of_number key n xs

  itself : (n : ℕ) → (n == n) ≡ true
  itself n = grind arith

  -- those of a number
  pub of_each : (n : ℕ) (xs ys : List X) → Pairwise R xs ys → Pairwise R (of_number key n xs) (of_number key n ys)
  of_each n [] ys h = ap (of_number key n) h
  of_each n (x ∷ xs) ys (y, rest, one, more, is) = subst (λ l. Pairwise R (of n (x ∷ xs)) (of n l)) (sym is) (told (of_each n xs rest more)) where
    told : Pairwise R (of n xs) (of n rest) → Pairwise R (of n (x ∷ xs)) (of n (y ∷ rest))
    told later = subst (λ k. Pairwise R (of n (x ∷ xs)) (cond (k == n) (y ∷ of n rest) (of n rest))) (same x y one) (by (key x == n)) where
      by : (b : Bool) → Pairwise R (cond b (x ∷ of n xs) (of n xs)) (cond b (y ∷ of n rest) (of n rest))
      by true = (y, of n rest, one, later, refl)
      by false = later

  -- of numbers below the first there are none
  none_lower : (n : ℕ) (x : X) (xs : List X) → Rises key (x ∷ xs) → n < key x → of n (x ∷ xs) ≡ []
  none_lower n x xs up lt =
      none_of key n (x ∷ xs) (omega (arith, lt), all_zip (λ y. key x ≤ key y) (λ y. key x ≤ key y) (λ y. suc n ≤ key y) (λ y a b. omega (arith, lt, a)) xs up.0 up.0)

  own : (x : X) (xs : List X) → of (key x) (x ∷ xs) ≡ x ∷ of (key x) xs
  own x xs = ap (λ b. cond b (x ∷ of (key x) xs) (of (key x) xs)) (itself (key x))

  none_left : (x : X) (xs : List X) → Pairwise R (x ∷ xs) [] → ⊥
  none_left x xs (y, rest, one, more, is) = cc is

  none_right : (y : X) (ys : List X) → Pairwise R [] (y ∷ ys) → ⊥
  none_right y ys is = cc is

  heads : (x y : X) (xs ys : List X) → Pairwise R (x ∷ xs) (y ∷ ys) → R x y × Pairwise R xs ys
  heads x y xs ys (z, rest, one, more, is) =
      let first : z ≡ y = cc is in
      let others : rest ≡ ys = cc is in
      (subst (R x) first one, subst (Pairwise R xs) others more)

  pub sorted_each : (xs ys : List X) → Rises key xs → Rises key ys → ((n : ℕ) → Pairwise R (of_number key n xs) (of_number key n ys)) → Pairwise R xs ys
  sorted_each [] [] up over each = refl
  sorted_each [] (y ∷ ys) up over each = absurd (none_right y (of (key y) ys) (subst (Pairwise R []) (own y ys) (each (key y))))
  sorted_each (x ∷ xs) [] up over each = absurd (none_left x (of (key x) xs) (subst (λ l. Pairwise R l []) (own x xs) (each (key x))))
  sorted_each (x ∷ xs) (y ∷ ys) up over each = (y, ys, first.0, sorted_each xs ys up.1 over.1 behind, refl) where
    not_lower : key x < key y → ⊥
    not_lower lt =
        none_left x (of (key x) xs)
        (subst (λ l. Pairwise R l []) (own x xs) (subst (Pairwise R (of (key x) (x ∷ xs))) (none_lower (key x) y ys over lt) (each (key x))))

    not_higher : key y < key x → ⊥
    not_higher lt =
        none_right y (of (key y) ys)
        (subst (Pairwise R []) (own y ys) (subst (λ l. Pairwise R l (of (key y) (y ∷ ys))) (none_lower (key y) x xs up lt) (each (key y))))

    compared : (a b : ℕ) → (a < b) ⊎ ((a ≡ b) ⊎ (b < a))
    compared a b = grind arith

    number : key x ≡ key y
    number = by (compared (key x) (key y)) where
      by : (key x < key y) ⊎ ((key x ≡ key y) ⊎ (key y < key x)) → key x ≡ key y
      by (inl lt) = absurd (not_lower lt)
      by (inr (inl is)) = is
      by (inr (inr gt)) = absurd (not_higher gt)

    first : R x y × Pairwise R (of (key y) xs) (of (key y) ys)
    first =
        let left : of (key y) (x ∷ xs) ≡ x ∷ of (key y) xs = ap (λ k. cond (k == key y) (x ∷ of (key y) xs) (of (key y) xs)) number ∙ ap (λ b. cond b (x ∷ of (key y) xs) (of (key y) xs)) (itself (key y)) in
        heads x y (of (key y) xs) (of (key y) ys) (subst (Pairwise R (x ∷ of (key y) xs)) (own y ys) (subst (λ l. Pairwise R l (of (key y) (y ∷ ys))) left (each (key y))))

    behind : (n : ℕ) → Pairwise R (of n xs) (of n ys)
    behind n = by (key y == n) (subst (λ k. Pairwise R (cond (k == n) (x ∷ of n xs) (of n xs)) (of n (y ∷ ys))) number (each n)) where
      by : (b : Bool) → Pairwise R (cond b (x ∷ of n xs) (of n xs)) (cond b (y ∷ of n ys) (of n ys)) → Pairwise R (of n xs) (of n ys)
      by true h = (heads x y (of n xs) (of n ys) h).1
      by false h = h
