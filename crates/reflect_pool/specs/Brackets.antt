-- Full names in brackets, which name extensions in JSON.
use Rattle.std.specs.Prelude.{ℕ, List, [], ◌∷◌, ◌++◌}

abbrev pub in_brackets : List ℕ → List ℕ
in_brackets name = 91 ∷ (name ++ 93 ∷ [])
