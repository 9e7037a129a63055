-- What holds of the first elements of a list, and of the next one, as they are viewed; and that not
-- all have what one lacks.
use Rattle.std.proofs.Common.{arith, ◌≡◌, ◌<◌, ◌+◌, ℕ, zero, suc, false, List, [], ◌∷◌, map, take, length, slice_index_or, sym, subst}
use Rattle.std.proofs.lemmas.Bool.{false≢true}
use Rattle.std.specs.Bool.{Decides}
use Rattle.std.specs.List.{AllByRecursion}

next_too : {X Y : Type 0} (P : Y → Type 0) (view : X → Y) (xs : List X) (i : ℕ) (x : X) → i < length xs → x ≡ slice_index_or xs i x
    → AllByRecursion P (map view (take i xs)) → P (view x) → AllByRecursion P (map view (take (suc i) xs))
next_too P view [] i x lt is all here = absurd (omega (arith, lt))
next_too P view (y ∷ xs) zero x lt is all here = (subst (λ z. P (view z)) is here, tt)
next_too P view (y ∷ xs) (suc i) x lt is all here = (all.0, next_too P view xs i x (omega (arith, lt)) is all.1 here)

pub one_more : {X Y : Type 0} (P : Y → Type 0) (view : X → Y) (xs : List X) (i : ℕ) (x : X) → i < length xs → x ≡ slice_index_or xs i x
    → AllByRecursion P (map view (take i xs)) → P (view x) → AllByRecursion P (map view (take (i + 1) xs))
one_more P view xs i x lt is all here =
    let next : suc i ≡ i + 1 = omega arith in subst (λ n. AllByRecursion P (map view (take n xs))) next (next_too P view xs i x lt is all here)

this_too : {X Y : Type 0} (P : Y → Type 0) (view : X → Y) (xs : List X) (i : ℕ) (x : X) → i < length xs → x ≡ slice_index_or xs i x
    → AllByRecursion P (map view xs) → P (view x)
this_too P view [] i x lt is all = absurd (omega (arith, lt))
this_too P view (y ∷ xs) zero x lt is all = subst (λ z. P (view z)) (sym is) all.0
this_too P view (y ∷ xs) (suc i) x lt is all = this_too P view xs i x (omega (arith, lt)) is all.1

pub one_fails : {X Y : Type 0} (P : Y → Type 0) (view : X → Y) (xs : List X) (i : ℕ) (x : X) → i < length xs → x ≡ slice_index_or xs i x
    → (P (view x) → ⊥) → Decides false (AllByRecursion P (map view xs))
one_fails P view xs i x lt is fails = (λ e. absurd (false≢true e), λ all. absurd (fails (this_too P view xs i x lt is all)))
