-- Names that are written with a leading dot.
use Rattle.std.specs.Prelude.{ℕ, ◌==◌, cond, List, [], ◌∷◌}

-- a name without its leading dot, if it has one
abbrev pub without_dot : List ℕ → List ℕ
without_dot [] = []
without_dot (b ∷ bs) = cond (b == 46) bs (b ∷ bs)
