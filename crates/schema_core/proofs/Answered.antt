-- From what was read and what was written to what is answered.
use Rattle.std.proofs.Common.{◌≡◌, ℕ, List, Option, None, Some, IfSome, Result, Ok, Err, OnOk, subst}
use Rattle.std.specs.Io.KnownBytes.{Appends}
use Rattle.schema_core.specs.declared.payload.Fault.{Fault}

-- an input that is read whole is what was given
pub answered : (A : List ℕ → List ℕ → Type 0) (r : Result Unit Fault) (given old new : Option (List ℕ)) (input written : List ℕ)
    → IfSome given (λ xs. input ≡ xs) → A input written → OnOk r (Appends old new written) → OnOk r (IfSome given (λ xs. (x : List ℕ) × A xs x × Appends old new x))
answered A (Err f) given old new input written is a w = tt
answered A (Ok u) None old new input written is a w = tt
answered A (Ok u) (Some xs) old new input written is a w = (written, subst (λ i. A i written) is a, w)
