-- What stands at a place of a list.
use Rattle.std.proofs.Common.{◌≡◌, ◌<◌, ◌∙◌, ◌⊎◌, inl, inr, ℕ, zero, suc, List, [], ◌∷◌, Option, Some, None, map, length, slice_get, slice_index_or, ap, sym, subst, refl, arith}
use Rattle.std.specs.List.{Contains, filter_map, cons_option}
use Rattle.schema_view.proofs.Lists.{contains_here, contains_there, contains_cases, contains_none}

pub get_contains : {X : Type 0} (xs : List X) (i : ℕ) (x : X) → slice_get xs i ≡ Some x → Contains xs x
get_contains [] i x e = absurd (cc e)
get_contains (y ∷ xs) zero x e =
    let same : y ≡ x = cc e in subst (Contains (y ∷ xs)) same (contains_here y xs)
get_contains (y ∷ xs) (suc i) x e = contains_there y xs x (get_contains xs i x e)

pub contains_get : {X : Type 0} (xs : List X) (x : X) → Contains xs x
    → (i : ℕ) × (slice_get xs i ≡ Some x)
contains_get [] x h = absurd (contains_none x h)
contains_get (y ∷ xs) x h = elim (contains_cases y xs x h) [
  | inl e ↦ (0, ap Some e)
  | inr j ↦ (let r = contains_get xs x j in (suc r.0, r.1))
]

pub get_less : {X : Type 0} (xs : List X) (i : ℕ) (x : X) → slice_get xs i ≡ Some x → i < length xs
get_less [] i x e = absurd (cc e)
get_less (y ∷ xs) zero x e = omega arith
get_less (y ∷ xs) (suc i) x e = let r = get_less xs i x e in omega (arith, r)

pub index_map : {X Y : Type 0} (h : X → Y) (d : Y) (xs : List X) (i : ℕ) (x : X)
    → slice_get xs i ≡ Some x → slice_index_or (map h xs) i d ≡ h x
index_map h d [] i x e = absurd (cc e)
index_map h d (y ∷ xs) zero x e = let same : y ≡ x = cc e in ap h same
index_map h d (y ∷ xs) (suc i) x e = index_map h d xs i x e

pub found_in : {X Y : Type 0} (h : X → Option Y) (xs : List X) (y : Y) → Contains (filter_map h xs) y
    → (x : X) × Contains xs x × (h x ≡ Some y)
found_in h [] y i = absurd (contains_none y i)
found_in {X} {Y} h (x ∷ xs) y i = by (h x) refl i (found_in h xs y) where
  by : (o : Option Y) → h x ≡ o → Contains (cons_option o (filter_map h xs)) y
      → (Contains (filter_map h xs) y → (z : X) × Contains xs z × (h z ≡ Some y))
      → (z : X) × Contains (x ∷ xs) z × (h z ≡ Some y)
  by None is j rest = let r = rest j in (r.0, contains_there x xs r.0 r.1, r.2)
  by (Some w) is j rest = elim (contains_cases w (filter_map h xs) y j) [
    | inl e ↦ (x, contains_here x xs, is ∙ ap Some e)
    | inr k ↦ (let r = rest k in (r.0, contains_there x xs r.0 r.1, r.2))
  ]

pub in_found : {X Y : Type 0} (h : X → Option Y) (xs : List X) (x : X) (y : Y) → Contains xs x
    → h x ≡ Some y → Contains (filter_map h xs) y
in_found h [] x y i e = absurd (contains_none x i)
in_found {X} {Y} h (z ∷ xs) x y i e =
    by (h z) refl (contains_cases z xs x i) (λ j. in_found h xs x y j e) where
      by : (o : Option Y) → h z ≡ o → (z ≡ x) ⊎ Contains xs x
          → (Contains xs x → Contains (filter_map h xs) y)
          → Contains (cons_option (h z) (filter_map h xs)) y
      by None is (inl same) rest = absurd (cc (sym is ∙ ap h same ∙ e))
      by None is (inr j) rest =
          subst (λ o. Contains (cons_option o (filter_map h xs)) y) (sym is) (rest j)
      by (Some w) is (inl same) rest =
          let own : w ≡ y = cc (sym is ∙ ap h same ∙ e) in
          subst (λ o. Contains (cons_option o (filter_map h xs)) y) (sym is)
          (subst (Contains (w ∷ filter_map h xs)) own (contains_here w (filter_map h xs)))
      by (Some w) is (inr j) rest =
          subst (λ o. Contains (cons_option o (filter_map h xs)) y) (sym is)
          (contains_there w (filter_map h xs) y (rest j))
