-- What is sorted by numbers, one number after another.
use Rattle.std.proofs.Common.{◌≡◌, ◌⊎◌, inl, inr, ◌≤◌, ◌<◌, ℕ, zero, suc, ◌+◌, ◌-◌, ◌^◌, ◌==◌, ◌&&◌, nat_lt, Bool, true, false, cond, not, List, [], ◌∷◌, ◌++◌, length, refl, sym, ap, ◌∙◌, subst, arith}
use Rattle.std.specs.Prelude.{slice_index_or}
use Rattle.std.specs.List.{AllByRecursion, filter, flat_map}
use Rattle.std.specs.List.Sorted.{IsSortedByKey, IsStableByKey, IsNonDecreasingBy, ties}
use Rattle.std.specs.declared.cmp.Ordering.TheVariants.{Less, Equal, Greater}
use Rattle.std.specs.Ordering.{is_lt, nat_cmp}
use Rattle.std.proofs.lemmas.List.Sorted.{IsNonDecreasingBy-from_sort}
use Rattle.protobuf_model.specs.Bytes.{count_from, field_numbers}
use Rattle.print_view.proofs.Counting.{none, same, same_numbers}

below : (a b : ℕ) → is_lt (nat_cmp a b) ≡ nat_lt a b
below a b = by (nat_lt a b) (a == b) where
  by : (c d : Bool) → is_lt (cond c Less (cond d Equal Greater)) ≡ c
  by true d = refl
  by false true = refl
  by false false = refl

neither : (a b : ℕ) → not (is_lt (nat_cmp a b)) && not (is_lt (nat_cmp b a)) ≡ (b == a)
neither a b =
    ap (λ c. not c && not (is_lt (nat_cmp b a))) (below a b) ∙ ap (λ c. not (nat_lt a b) && not c) (below b a)
    ∙ by (nat_lt a b) refl (nat_lt b a) refl (b == a) refl where
      by : (c : Bool) → nat_lt a b ≡ c → (d : Bool) → nat_lt b a ≡ d → (e : Bool) → (b == a) ≡ e → not c && not d ≡ e
      by true lt d k false h = refl
      by true lt d k true h = absurd (grind (arith, lt, h))
      by false lt true k false h = refl
      by false lt true k true h = absurd (grind (arith, k, h))
      by false lt false k true h = refl
      by false lt false k false h = absurd (grind (arith, lt, k, h))

filter_same : {X : Type 0} (p q : X → Bool) → ((x : X) → p x ≡ q x) → (xs : List X) → filter p xs ≡ filter q xs
filter_same p q e [] = refl
filter_same p q e (x ∷ xs) = ap (λ b. cond b (x ∷ filter p xs) (filter p xs)) (e x) ∙ ap (λ l. cond (q x) (x ∷ l) l) (filter_same p q e xs)

-- what follows from two facts, of each element
pub all_zip : {X : Type 0} (P Q R : X → Type 0) → ((x : X) → P x → Q x → R x) → (xs : List X) → AllByRecursion P xs → AllByRecursion Q xs → AllByRecursion R xs
all_zip P Q R f [] ps qs = tt
all_zip P Q R f (x ∷ xs) ps qs = (f x ps.0 qs.0, all_zip P Q R f xs ps.1 qs.1)

pub all_at : {X : Type 0} (P : X → Type 0) (d : X) (xs : List X) → ((k : ℕ) → k < length xs → P (slice_index_or xs k d)) → AllByRecursion P xs
all_at P d [] h = tt
all_at P d (x ∷ xs) h = (h 0 (omega arith), all_at P d xs (λ k lt. h (suc k) (omega (arith, lt))))

pub all_filtered : {X : Type 0} (P : X → Type 0) (p : X → Bool) (xs : List X) → AllByRecursion P xs → AllByRecursion P (filter p xs)
all_filtered P p [] h = tt
all_filtered P p (x ∷ xs) h = by (p x) (all_filtered P p xs h.1) where
  by : (b : Bool) → AllByRecursion P (filter p xs) → AllByRecursion P (cond b (x ∷ filter p xs) (filter p xs))
  by true rest = (h.0, rest)
  by false rest = rest

either : (low n : ℕ) → low ≤ n → (n ≡ low) ⊎ (suc low ≤ n)
either low n le = grind (arith, le)

other_number : (a n : ℕ) → (a ≡ n → ⊥) → (a == n) ≡ false
other_number a n other = grind (arith, other)

module _ {X : Type 0} (key : X → ℕ) where
  abbrev pub of_number : ℕ → List X → List X
  of_number n xs = filter (λ x. key x == n) xs

  abbrev pub Within : ℕ → ℕ → List X → Type 0
  Within low high xs = AllByRecursion (λ x. (low ≤ key x) × (key x ≤ high)) xs

  abbrev pub Rises : List X → Type 0
  Rises [] = Unit {0}
  Rises (x ∷ xs) = AllByRecursion (λ y. key x ≤ key y) xs × Rises xs

  pub rises : (xs : List X) → IsNonDecreasingBy key xs → Rises xs
  rises [] h = tt
  rises (x ∷ xs) h = (
    all_at (λ y. key x ≤ key y) x xs (λ k lt. h 0 (suc k) x (omega arith) (omega (arith, lt))),
    rises xs (λ i j d le lt. h (suc i) (suc j) d (omega (arith, le)) (omega (arith, lt))),
  )

  pub none_of : (n : ℕ) (xs : List X) → AllByRecursion (λ y. suc n ≤ key y) xs → of_number n xs ≡ []
  none_of n [] h = refl
  none_of n (x ∷ xs) h =
      let le = h.0 in
      ap (λ b. cond b (x ∷ of_number n xs) (of_number n xs)) (other_number (key x) n (λ e. omega (arith, e, le))) ∙ none_of n xs h.1

  gathers : (k low high : ℕ) (xs : List X) → suc high ≡ low + k → Rises xs → Within low high xs → flat_map (λ n. of_number n xs) (count_from low k) ≡ xs
  gathers k low high [] q r w = none k low (λ n. of_number n []) (λ n le. refl)
  gathers zero low high (x ∷ xs) q r w = let a = w.0.0 in let b = w.0.1 in absurd (omega (arith, q, a, b))
  gathers (suc k) low high (x ∷ xs) q r w = by (either low (key x) w.0.0) (gathers (suc k) low high xs q r.1 w.1) (λ up. gathers k (suc low) high (x ∷ xs) (omega (arith, q)) r up) where
    by : (key x ≡ low) ⊎ (suc low ≤ key x) → flat_map (λ n. of_number n xs) (count_from low (suc k)) ≡ xs
        → (Within (suc low) high (x ∷ xs) → flat_map (λ n. of_number n (x ∷ xs)) (count_from (suc low) k) ≡ x ∷ xs)
        → flat_map (λ n. of_number n (x ∷ xs)) (count_from low (suc k)) ≡ x ∷ xs
    by (inl is) rest up =
        let here : (key x == low) ≡ true = grind (arith, is) in
        ap (λ b. cond b (x ∷ of_number low xs) (of_number low xs) ++ flat_map (λ n. of_number n (x ∷ xs)) (count_from (suc low) k)) here
        ∙ ap (λ l. x ∷ (of_number low xs ++ l)) (same k (suc low) (λ n. of_number n (x ∷ xs)) (λ n. of_number n xs)
        (λ n le. ap (λ b. cond b (x ∷ of_number n xs) (of_number n xs)) (other_number (key x) n (λ e. omega (arith, e, is, le)))))
        ∙ ap (λ l. x ∷ l) rest
    by (inr lt) rest up =
        ap (λ l. l ++ flat_map (λ n. of_number n (x ∷ xs)) (count_from (suc low) k))
        (none_of low (x ∷ xs) (lt, all_zip (λ y. key x ≤ key y) (λ y. key x ≤ key y) (λ y. suc low ≤ key y) (λ y a b. omega (arith, lt, a)) xs r.0 r.0))
        ∙ up ((lt, w.0.1), all_zip (λ y. key x ≤ key y) (λ y. (low ≤ key y) × (key y ≤ high)) (λ y. (suc low ≤ key y) × (key y ≤ high)) (λ y a b. (omega (arith, lt, a), b.1)) xs r.0 w.1)

  -- by ascending numbers that fields may have they are those of each number, one number after another
  pub in_place : (xs : List X) → Rises xs → Within 1 (2 ^ 29 - 1) xs → flat_map (λ n. of_number n xs) field_numbers ≡ xs
  unfolding field_numbers
  in_place xs r w = gathers (2 ^ 29 - 1) 1 (2 ^ 29 - 1) xs (omega arith) r w

  all_numbered : (P : X → Type 0) (xs : List X) → ((n : ℕ) → AllByRecursion P (of_number n xs)) → AllByRecursion P xs
  all_numbered P [] h = tt
  all_numbered P (x ∷ xs) h = ((first (key x == key x) (grind arith) (h (key x))).0, all_numbered P xs (λ n. rest n (key x == n) (h n))) where
    first : (b : Bool) → b ≡ true → AllByRecursion P (cond b (x ∷ of_number (key x) xs) (of_number (key x) xs)) → AllByRecursion P (x ∷ of_number (key x) xs)
    first b e h = subst (λ b. AllByRecursion P (cond b (x ∷ of_number (key x) xs) (of_number (key x) xs))) e h

    rest : (n : ℕ) (b : Bool) → AllByRecursion P (cond b (x ∷ of_number n xs) (of_number n xs)) → AllByRecursion P (of_number n xs)
    rest n true h = h.1
    rest n false h = h

  -- of a number what is sorted has what there was, in its order
  module _ (at : ℕ → X) (numbered : (n : ℕ) → key (at n) ≡ n) (found xs : List X) (sorted : IsSortedByKey key nat_cmp xs) (stable : IsStableByKey key nat_cmp found xs) where
    pub as_found : (n : ℕ) → of_number n xs ≡ of_number n found
    as_found n =
        let tied : (x : X) → ties (λ x y. is_lt (nat_cmp (key x) (key y))) (at n) x ≡ (key x == n) = λ x. neither (key (at n)) (key x) ∙ ap (λ k. key x == k) (numbered n) in
        sym (filter_same (ties (λ x y. is_lt (nat_cmp (key x) (key y))) (at n)) (λ x. key x == n) tied xs) ∙ stable (at n)
        ∙ filter_same (ties (λ x y. is_lt (nat_cmp (key x) (key y))) (at n)) (λ x. key x == n) tied found

    pub all_sorted : (P : X → Type 0) → AllByRecursion P found → AllByRecursion P xs
    all_sorted P h = all_numbered P xs (λ n. subst (AllByRecursion P) (sym (as_found n)) (all_filtered P (λ x. key x == n) found h))

    pub all_found : (P : X → Type 0) → AllByRecursion P xs → AllByRecursion P found
    all_found P h = all_numbered P found (λ n. subst (AllByRecursion P) (as_found n) (all_filtered P (λ x. key x == n) xs h))

    -- so it is what there was of each number that a field may have
    pub sorted_is : Within 1 (2 ^ 29 - 1) found → flat_map (λ n. of_number n found) field_numbers ≡ xs
    sorted_is within =
        sym (same_numbers (λ n. of_number n xs) (λ n. of_number n found) (λ n le. as_found n))
        ∙ in_place xs (rises xs (IsNonDecreasingBy-from_sort key xs sorted)) (all_sorted (λ x. (1 ≤ key x) × (key x ≤ 2 ^ 29 - 1)) within)
