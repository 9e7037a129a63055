-- What a file sees: itself, its imports, and what those import publicly through any chain.
use Rattle.std.specs.Prelude.{◌≡◌, ℕ, List, [], ◌∷◌, ◌⊎◌, map, slice_index_or}
use Rattle.std.specs.List.{Contains}
use Rattle.reflect_scope.specs.declared.seen.Links.{Links}

-- the files that a file imports, none where there is no such file
abbrev pub imports_at : List Links → ℕ → List ℕ
imports_at files f = slice_index_or (map (λ l. l.imports.items) files) f []

abbrev pub publics_at : List Links → ℕ → List ℕ
publics_at files f = slice_index_or (map (λ l. l.public.items) files) f []

-- public imports lead from f along the given files to g
abbrev pub IsChain : (ℕ → List ℕ) → ℕ → List ℕ → ℕ → Type 0
IsChain publics f [] g = f ≡ g
IsChain publics f (m ∷ ms) g = Contains (publics f) m × IsChain publics m ms g

-- one of the starts, or what a chain reaches from one
abbrev pub Reached : (ℕ → List ℕ) → List ℕ → ℕ → Type 0
Reached publics starts g = (m : ℕ) × (ms : List ℕ) × Contains starts m × IsChain publics m ms g

abbrev pub Sees : List Links → ℕ → ℕ → Type 0
Sees files f g = (g ≡ f) ⊎ Reached (publics_at files) (imports_at files f) g
