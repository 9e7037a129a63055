-- What it means to read a value from the front of a text of bytes, by a relation between bytes and
-- values.
use Rattle.std.specs.Prelude.{◌≡◌, ℕ, List, ◌++◌, Result, Ok, Err}
use Rattle.std.specs.Borrow.{Bor}
use Rattle.reflect_wire.specs.declared.wire_error.WireError.{WireError}
use Rattle.reflect_wire.specs.declared.wire_error.WireError.TheVariants as errors

-- a front of the bytes spells the value, and the rest is behind it
abbrev pub Fronts : {X : Type 0} → (List ℕ → X → Type 0) → List ℕ → X → List ℕ → Type 0
Fronts R bytes x rest = (front : List ℕ) × R front x × (bytes ≡ front ++ rest)

-- no front of the bytes spells a value
abbrev pub NoFront : {X : Type 0} → (List ℕ → X → Type 0) → List ℕ → Type 0
NoFront {X} R bytes = (front rest : List ℕ) (x : X) → R front x → bytes ≡ front ++ rest → ⊥

-- what a refusal says
abbrev pub RefusesFront : {X : Type 0} → (List ℕ → X → Type 0) → List ℕ → WireError → Type 0
RefusesFront R bytes errors.Memory = Unit {0}
RefusesFront R bytes _ = NoFront R bytes

-- a value and the bytes behind it are read exactly where a front spells one, unless memory ran out
abbrev pub ReadsFront : {X : Type 0} → (List ℕ → X → Type 0) → List ℕ
    → Result (X × Bor (List ℕ)) WireError → Type 0
ReadsFront R bytes (Ok found) = Fronts R bytes found.0 found.1.now
ReadsFront R bytes (Err e) = RefusesFront R bytes e

-- the same, where the relation speaks of what view sees of a value
abbrev pub ReadsBy : {X Y : Type 0} → (X → Y) → (List ℕ → Y → Type 0) → List ℕ
    → Result (X × Bor (List ℕ)) WireError → Type 0
ReadsBy view R bytes (Ok found) = Fronts R bytes (view found.0) found.1.now
ReadsBy view R bytes (Err e) = RefusesFront R bytes e

-- what a refusal says where all the bytes have to spell one value
abbrev pub RefusesWhole : {X : Type 0} → (List ℕ → X → Type 0) → List ℕ → WireError → Type 0
RefusesWhole R bytes errors.Memory = Unit {0}
RefusesWhole {X} R bytes _ = (x : X) → R bytes x → ⊥
