-- Faults that are added after others, at places of the same files.
use Rattle.std.proofs.Common.{ℕ, List, ◌++◌, subst}
use Rattle.reflect_faults.specs.Faults.{Fault, Adds, place_at}
use Rattle.reflect_names.specs.Names.{Places}
use Rattle.reflect_faults.specs.declared.faults.Faults.{Faults}
use Rattle.reflect_faults.proofs.Added.{adds_on, same_places}

pub adds_then : (s t u : Faults) (file : ℕ) (xs : List Fault) (ys : Places → List Fault) → Adds s t xs → Adds t u (ys (place_at t file)) → Adds s u (xs ++ ys (place_at s file))
adds_then s t u file xs ys a b = adds_on s t u xs (ys (place_at s file)) a (subst (λ p. Adds t u (ys p)) (same_places s t xs a file) b)
