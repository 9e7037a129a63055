-- How a refusal inside is a refusal outside.
use Rattle.std.proofs.Common.{ℕ, List}
use Rattle.reflect_wire.specs.Reads.{NoFront, RefusesFront, RefusesWhole}
use Rattle.reflect_wire.specs.declared.wire_error.WireError.{WireError}
use Rattle.reflect_wire.specs.declared.wire_error.WireError.TheVariants.{Truncated, BadVarint, BadKey, BadWireType, EndGroupMismatch, TooDeep, BadUtf8, TooLong, Memory}

-- a refusal of one reading is one of another that could not be without it
pub refuses_more : {X Y : Type 0} (R : List ℕ → X → Type 0) (S : List ℕ → Y → Type 0) (bytes more : List ℕ) (e : WireError)
    → (NoFront R bytes → NoFront S more) → RefusesFront R bytes e → RefusesFront S more e
refuses_more R S bytes more Memory f h = tt
refuses_more R S bytes more Truncated f h = f h
refuses_more R S bytes more BadVarint f h = f h
refuses_more R S bytes more BadKey f h = f h
refuses_more R S bytes more BadWireType f h = f h
refuses_more R S bytes more EndGroupMismatch f h = f h
refuses_more R S bytes more TooDeep f h = f h
refuses_more R S bytes more BadUtf8 f h = f h
refuses_more R S bytes more TooLong f h = f h

-- a refusal of one reading is one of all the bytes that could not be without it
pub refuses_whole : {X Y : Type 0} (R : List ℕ → X → Type 0) (S : List ℕ → Y → Type 0) (bytes all : List ℕ) (e : WireError)
    → (NoFront R bytes → (y : Y) → S all y → ⊥) → RefusesFront R bytes e → RefusesWhole S all e
refuses_whole R S bytes all Memory f h = tt
refuses_whole R S bytes all Truncated f h = f h
refuses_whole R S bytes all BadVarint f h = f h
refuses_whole R S bytes all BadKey f h = f h
refuses_whole R S bytes all BadWireType f h = f h
refuses_whole R S bytes all EndGroupMismatch f h = f h
refuses_whole R S bytes all TooDeep f h = f h
refuses_whole R S bytes all BadUtf8 f h = f h
refuses_whole R S bytes all TooLong f h = f h
