-- Views of lists: what a filter leaves of them, and views of views.
use Rattle.std.proofs.Common.{◌≡◌, List, [], ◌∷◌, Bool, true, false, cond, map, ap, refl}
use Rattle.std.specs.List.{filter}

step : {X Y : Type 0} (f : X → Y) (q : Y → Bool) (x : X) (xs : List X) (b : Bool)
    → map f (filter (λ x. q (f x)) xs) ≡ filter q (map f xs)
    → map f (cond b (x ∷ filter (λ x. q (f x)) xs) (filter (λ x. q (f x)) xs))
    ≡ cond b (f x ∷ filter q (map f xs)) (filter q (map f xs))
step f q x xs true e = ap (λ ys. f x ∷ ys) e
step f q x xs false e = e

-- the views of what passes are the views that pass
pub map-filter : {X Y : Type 0} (f : X → Y) (q : Y → Bool) (xs : List X)
    → map f (filter (λ x. q (f x)) xs) ≡ filter q (map f xs)
map-filter f q [] = refl
map-filter f q (x ∷ xs) = step f q x xs (q (f x)) (map-filter f q xs)

pub map_map : {X Y Z : Type 0} (f : Y → Z) (g : X → Y) (xs : List X) → map f (map g xs)
    ≡ map (λ x. f (g x)) xs
map_map f g [] = refl
map_map f g (x ∷ xs) = ap (λ zs. f (g x) ∷ zs) (map_map f g xs)
