-- What the pool's invariant says at a place.
use Rattle.std.proofs.Common.{◌≡◌, ℕ, zero, suc, ◌<◌, List, [], ◌∷◌, map, length, get_or, arith, sym, ap, ◌∙◌, subst, Some, slice_get}
use Rattle.std.proofs.lemmas.Option.{slice_get_within, get_or_from_slice_get}
use Rattle.std.proofs.Math.ListN.{get_or-map, length-map}
use Rattle.std.proofs.lemmas.List as lists
use Rattle.std.specs.List.{AllByRecursion}

pub at_place : {X : Type 0} (P : X → Type 0) (xs : List X) (i : ℕ) (d : X) → AllByRecursion P xs → i < length xs → P (get_or xs i d)
at_place P [] i d h lt = absurd (omega arith)
at_place P (x ∷ xs) zero d h lt = h.0
at_place P (x ∷ xs) (suc i) d h lt = at_place P xs i d h.1 (omega arith)

-- what holds of each view holds of the view of what stands at a place
pub at_view : {X Y : Type 0} (f : X → Y) (P : Y → Type 0) (xs : List X) (i : ℕ) (x : X) → AllByRecursion P (map f xs) → i < length (map f xs) → x ≡ get_or xs i x → P (f x)
at_view f P xs i x h lt e = subst P (get_or-map f xs i x ∙ ap f (sym e)) (at_place P (map f xs) i (f x) h lt)

-- the view at a place is the view of what stands there
pub view_there : {X Y : Type 0} (f : X → Y) (xs : List X) (i : ℕ) (x : X) (d : Y) → i < length (map f xs) → x ≡ get_or xs i x → get_or (map f xs) i d ≡ f x
view_there f xs i x d lt e =
    let long : length (map f xs) ≡ length xs = length-map xs f in
    lists.get_or-map f xs i x d (omega (arith, lt, long)) ∙ ap f (sym e)

-- what holds of each element holds of the one at a place
pub all_get : {X : Type 0} (P : X → Type 0) (xs : List X) (i : ℕ) (x : X) → AllByRecursion P xs → slice_get xs i ≡ Some x → P x
all_get P xs i x all e = subst P (get_or_from_slice_get xs i x x e) (at_place P xs i x all (slice_get_within xs i x e))
