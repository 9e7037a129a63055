-- Lists whose elements belong together one by one.
use Rattle.std.specs.Prelude.{◌≡◌, List, [], ◌∷◌}

-- each element of the second list belongs to that of the first at its place
abbrev pub Pairwise : {X Y : Type 0} → (X → Y → Type 0) → List X → List Y → Type 0
Pairwise R [] ys = ys ≡ []
Pairwise {X} {Y} R (x ∷ xs) ys = (y : Y) × (rest : List Y) × R x y × Pairwise R xs rest
    × (ys ≡ y ∷ rest)
