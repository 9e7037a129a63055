-- What is met in turn.
use Rattle.std.proofs.Common.{◌≡◌, ℕ, suc, ◌+◌, ◌<◌, ◌≤◌, List, [], ◌∷◌, ◌++◌, drop, length, get_or, ap, sym, ◌∙◌, add-one, drop-cons}
use Rattle.std.proofs.Math.ListN.{drop_of_length-le}
use Rattle.std.proofs.lemmas.List.{get_or_default}
use Rattle.std.proofs.lemmas.List.Sums.{fold-append}
use Rattle.protox_locate.specs.Collected.{State, meet, meets}
use Rattle.protox_locate.specs.Located.{Event}

pub meets_append : (s : State) (xs ys : List Event) → meets s (xs ++ ys) ≡ meets (meets s xs) ys
meets_append s xs ys = fold-append meet s xs ys

-- the next item, and those behind it
front : {A : Type 0} (xs : List A) (k : ℕ) (x : A) → k < length xs → x ≡ get_or xs k x → drop k xs ≡ x ∷ drop (k + 1) xs
front xs k x lt is = drop-cons xs k x lt ∙ ap (λ y. y ∷ drop (suc k) xs) (sym is) ∙ ap (λ n. x ∷ drop n xs) (sym (add-one k))

-- an item is met, and those behind it are left
module _ {A C : Type 0} (met : C → A → List Event) (after : C → A → C) (all : C → List A → List Event) (more : (c : C) (x : A) (xs : List A) → all c (x ∷ xs) ≡ met c x ++ all (after c x) xs) where
  pub next_met : (xs : List A) (k : ℕ) (x : A) (s t : State) (c d : C) → k < length xs → x ≡ get_or xs k x → t ≡ meets s (met c x) → d ≡ after c x
      → meets t (all d (drop (k + 1) xs)) ≡ meets s (all c (drop k xs))
  next_met xs k x s t c d lt is was counted =
      let ys = drop (k + 1) xs in
      ap (λ u. meets u (all d ys)) was ∙ ap (λ e. meets (meets s (met c x)) (all e ys)) counted ∙ sym (meets_append s (met c x) (all (after c x) ys))
      ∙ ap (meets s) (sym (more c x ys)) ∙ ap (λ zs. meets s (all c zs)) (sym (front xs k x lt is))

-- an item is counted, and those behind it are left
module _ {A C D : Type 0} (after : C → A → C) (all : C → List A → D) (more : (c : C) (x : A) (xs : List A) → all c (x ∷ xs) ≡ all (after c x) xs) where
  pub next_counted : (xs : List A) (k : ℕ) (x : A) (c d : C) → k < length xs → x ≡ get_or xs k x → d ≡ after c x → all d (drop (k + 1) xs) ≡ all c (drop k xs)
  next_counted xs k x c d lt is counted =
      ap (λ e. all e (drop (k + 1) xs)) counted ∙ sym (more c x (drop (k + 1) xs)) ∙ ap (all c) (sym (front xs k x lt is))

-- an item of a list is the same whatever stands behind the list's end
same_item : {A : Type 0} (xs : List A) (k : ℕ) (d : A) → k < length xs → get_or xs k d ≡ get_or xs k (get_or xs k d)
same_item xs k d lt = get_or_default xs k d (get_or xs k d) lt

-- the same of items that are read with a default
module _ {A C : Type 0} (met : C → A → List Event) (after : C → A → C) (all : C → List A → List Event) (more : (c : C) (x : A) (xs : List A) → all c (x ∷ xs) ≡ met c x ++ all (after c x) xs) where
  pub next_met_at : (z : A) (xs : List A) (k : ℕ) (s t : State) (c d : C) → k < length xs → t ≡ meets s (met c (get_or xs k z)) → d ≡ after c (get_or xs k z)
      → meets t (all d (drop (k + 1) xs)) ≡ meets s (all c (drop k xs))
  next_met_at z xs k s t c d lt was counted = next_met met after all more xs k (get_or xs k z) s t c d lt (same_item xs k z lt) was counted

module _ {A C D : Type 0} (after : C → A → C) (all : C → List A → D) (more : (c : C) (x : A) (xs : List A) → all c (x ∷ xs) ≡ all (after c x) xs) where
  pub next_counted_at : (z : A) (xs : List A) (k : ℕ) (c d : C) → k < length xs → d ≡ after c (get_or xs k z) → all d (drop (k + 1) xs) ≡ all c (drop k xs)
  next_counted_at z xs k c d lt counted = next_counted after all more xs k (get_or xs k z) c d lt (same_item xs k z lt) counted

-- behind the last item nothing is counted
pub all_counted : {A C D : Type 0} (all : C → List A → D) (xs : List A) (k : ℕ) (c : C) → length xs ≤ k → all c (drop k xs) ≡ all c []
all_counted all xs k c le = ap (all c) (drop_of_length-le xs le)

-- an equation by way of a known one
pub by_way : {A : Type 0} {x y z : A} → y ≡ z → x ≡ y → x ≡ z
by_way e d = d ∙ e

-- behind the last item nothing is met
pub all_met : {A C : Type 0} (all : C → List A → List Event) → ((c : C) → all c [] ≡ []) → (xs : List A) (k : ℕ) (s : State) (c : C) → length xs ≤ k → meets s (all c (drop k xs)) ≡ s
all_met all none xs k s c le = ap (λ ys. meets s (all c ys)) (drop_of_length-le xs le) ∙ ap (meets s) (none c)

-- a statement with braces: itself, its name, what stands inside, and the closing brace
pub braced : (s₀ s₁ s₂ s₃ s₄ : State) (a b : Event) (es : List Event) (z : Event) → s₁ ≡ meet s₀ a → s₂ ≡ meet s₁ b → s₃ ≡ meets s₂ es → s₄ ≡ meet s₃ z → s₄ ≡ meets s₀ ((a ∷ b ∷ []) ++ es ++ z ∷ [])
braced s₀ s₁ s₂ s₃ s₄ a b es z begun named inside closed =
    closed ∙ ap (λ s. meet s z) (inside ∙ ap (λ s. meets s es) (named ∙ ap (λ s. meet s b) begun)) ∙ sym (meets_append s₀ (a ∷ b ∷ es) (z ∷ []))
