-- Lists under maps that pass through what makes them.
use Rattle.std.proofs.Common.{◌≡◌, List, [], ◌∷◌, ◌++◌, map, refl, sym, ap, ◌∙◌}
use Rattle.std.specs.List.{flat_map}
use Rattle.std.proofs.lemmas.List.{map-append}
use Rattle.std.proofs.lemmas.List.Concat.{flat_map-cons}
use Rattle.schema_view.proofs.Renames.{map_same}

pub map_maps : {X Y Z A : Type 0} (g : Y → Z) (f : X → Y) (k : A → Z) (h : X → A)
    → ((x : X) → g (f x) ≡ k (h x)) → (xs : List X) → map g (map f xs) ≡ map k (map h xs)
map_maps g f k h e xs =
    map_same g f (λ x. k (h x)) e xs ∙ sym (map_same k h (λ x. k (h x)) (λ x. refl) xs)

pub both_mapped : {X Y : Type 0} (k : X → Y) (a b : List Y) (c d : List X)
    → a ≡ map k c → b ≡ map k d → a ++ b ≡ map k (c ++ d)
both_mapped k a b c d e f = (λ i. e i ++ f i) ∙ sym (map-append k c d)

pub flat_maps : {X Y : Type 0} (g : X → List Y) (f : X → X) (k : Y → Y)
    → ((x : X) → g (f x) ≡ map k (g x)) → (xs : List X)
    → flat_map g (map f xs) ≡ map k (flat_map g xs)
flat_maps g f k e [] = refl
flat_maps g f k e (x ∷ xs) =
    flat_map-cons g (f x) (map f xs)
    ∙ both_mapped k (g (f x)) (flat_map g (map f xs)) (g x) (flat_map g xs) (e x)
    (flat_maps g f k e xs)
    ∙ ap (map k) (sym (flat_map-cons g x xs))
