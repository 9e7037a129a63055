-- What stands at a place of a list that goes on behind another.
use Rattle.std.proofs.Common.{◌≡◌, ◌⊎◌, inl, inr, ◌<◌, ◌≤◌, ◌+◌, ◌-◌, ◌++◌, ℕ, zero, suc, List, [], ◌∷◌, map, length, length-append, Some, slice_get, slice_index_or, refl, ap, ◌∙◌, arith}
use Rattle.std.proofs.lemmas.Bool.{cases_lt}
use Rattle.std.proofs.Math.ListN.{get_or-append}
use Rattle.std.proofs.Math.Seq.{get_or-append_right, get_or-append-add}
use Rattle.reflect_index.proofs.Among.{get_map, index_is}

pub index_none : {X : Type 0} (xs : List X) (i : ℕ) (d : X) → length xs ≤ i
    → slice_index_or xs i d ≡ d
index_none [] i d le = refl
index_none (x ∷ xs) zero d le = absurd (omega (arith, le))
index_none (x ∷ xs) (suc i) d le = index_none xs i d (omega (arith, le))

pub get_in : {X : Type 0} (xs : List X) (i : ℕ) (x : X) → slice_get xs i ≡ Some x → i < length xs
get_in [] i x e = absurd (cc e)
get_in (y ∷ xs) zero x e = omega arith
get_in (y ∷ xs) (suc i) x e = let rest = get_in xs i x e in omega (arith, rest)

pub mapped : {X Y Z : Type 0} (f : Y → Z) (g : X → Y) (h : X → Z) → ((x : X) → f (g x) ≡ h x)
    → (xs : List X) → map f (map g xs) ≡ map h xs
mapped f g h same [] = refl
mapped f g h same (x ∷ xs) = λ i. same x i ∷ mapped f g h same xs i

-- an element of the second list stands there
pub record IsLater {X Y : Type 0} (g : X → Y) (xs : List Y) (ys : List X) (i : ℕ) (y : Y) : Type 0
  where
    pub place : ℕ
    pub there : i ≡ length xs + place
    pub own : X
    pub at : slice_get ys place ≡ Some own
    pub is : y ≡ g own

-- what stands at a place of the whole list stands in the first, or in the second, or there is none
pub which : {X Y : Type 0} (g : X → Y) (xs zs : List Y) (ys : List X) (i : ℕ) (d : Y)
    → zs ≡ xs ++ map g ys
    → ((i < length xs) × (slice_index_or zs i d ≡ slice_index_or xs i d))
    ⊎ (IsLater g xs ys i (slice_index_or zs i d)
    ⊎ ((length zs ≤ i) × (slice_index_or zs i d ≡ d)))
which {X} {Y} g xs zs ys i d whole = by (cases_lt i (length xs)) where
  at : (i : ℕ) → slice_index_or zs i d ≡ slice_index_or (xs ++ map g ys) i d
  at i = ap (λ (l : List Y). slice_index_or l i d) whole

  found : (ks : List X) (k : ℕ) → ((x : X) × (slice_get ks k ≡ Some x)) ⊎ (length (map g ks) ≤ k)
  found [] k = inr (omega arith)
  found (x ∷ ks) zero = inl (x, refl)
  found (x ∷ ks) (suc k) = elim (found ks k) [
    | inl there ↦ inl there
    | inr le ↦ inr (omega (arith, le))
  ]

  by : (i < length xs) ⊎ (length xs ≤ i)
      → ((i < length xs) × (slice_index_or zs i d ≡ slice_index_or xs i d))
      ⊎ (IsLater g xs ys i (slice_index_or zs i d)
      ⊎ ((length zs ≤ i) × (slice_index_or zs i d ≡ d)))
  by (inl lt) = inl (lt, at i ∙ get_or-append xs (map g ys) d i lt)
  by (inr le) =
      let k = i - length xs in
      let behind = at i ∙ get_or-append_right xs (map g ys) i d le in
      let count = ap (λ (l : List Y). length l) whole ∙ length-append xs (map g ys) in
      inr (elim (found ys k) [
        | inl (x, there) ↦ inl (record {
          place = k;
          there = omega (arith, le);
          own = x;
          at = there;
          is = behind ∙ index_is (map g ys) k (g x) d (get_map g ys k x there);
        })
        | inr none ↦ inr (
          omega (arith, le, none, count),
          behind ∙ index_none (map g ys) k d none,
        )
      ])

-- and back
pub later_is : {X Y : Type 0} (g : X → Y) (xs zs : List Y) (ys : List X) (k : ℕ) (x : X) (d : Y)
    → zs ≡ xs ++ map g ys → slice_get ys k ≡ Some x → slice_index_or zs (length xs + k) d ≡ g x
later_is {X} {Y} g xs zs ys k x d whole at =
    ap (λ (l : List Y). slice_index_or l (length xs + k) d) whole
    ∙ get_or-append-add xs (map g ys) k d
    ∙ index_is (map g ys) k (g x) d (get_map g ys k x at)

pub get_behind : {X : Type 0} (xs ys : List X) (k : ℕ) (x : X) → slice_get ys k ≡ Some x
    → slice_get (xs ++ ys) (length xs + k) ≡ Some x
get_behind [] ys k x e = let place : 0 + k ≡ k = omega arith in ap (slice_get ys) place ∙ e
get_behind (y ∷ xs) ys k x e =
    let place : length (y ∷ xs) + k ≡ suc (length xs + k) = omega arith in
    ap (slice_get ((y ∷ xs) ++ ys)) place ∙ get_behind xs ys k x e
