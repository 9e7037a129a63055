-- How a fault inside is one outside.
use Rattle.std.proofs.Common.{◌≡◌, inl, inr, ℕ, zero, suc, ◌≤◌, ◌+◌, ◌-◌, ◌*◌, ◌^◌, List, [], ◌∷◌, refl, sym, subst, arith}
use Rattle.reflect_wire.specs.declared.wire_error.WireError.{WireError}
use Rattle.reflect_wire.specs.declared.wire_error.WireError.TheVariants.{Truncated, BadVarint, BadKey, BadWireType, EndGroupMismatch, TooDeep, BadUtf8, TooLong, Memory}
use Rattle.reflect_wire.specs.declared.wire_key.WireKey.{WireKey}
use Rattle.reflect_wire.specs.declared.wire_key.WireType.{WireType}
use Rattle.reflect_wire.specs.declared.wire_key.WireType.TheVariants as wires
use Rattle.reflect_wire.specs.Reads.{Fronts}
use Rattle.reflect_wire.specs.Varint.{IsVarintWithin}
use Rattle.reflect_wire.specs.Faults.{VarintFault, DelimitedFault, FixedFault, FormFault, IsTooDeep, ValueFault, GroupFault, TellsTrue}

pub one_too_many : (b : ℕ) (bytes rest : List ℕ) → bytes ≡ b ∷ rest → 128 ≤ b → VarintFault 1 bytes BadVarint
one_too_many b bytes rest e h = inl (b ∷ [], rest, (h, tt), refl, e)

pub overlarge : (left outer b high : ℕ) (bytes rest behind : List ℕ) → bytes ≡ b ∷ rest → 128 ≤ b → Fronts (IsVarintWithin left) rest high behind → 2 ^ 57 ≤ high → VarintFault outer bytes BadVarint
overlarge left outer b high bytes rest behind e h found large =
    inr (b ∷ found.0, behind, (high * 128 + (b - 128), inr (h, (high, omega arith, found.1.spelled)), omega arith, cc (found.2)))

pub fault_behind : (most outer b : ℕ) (bytes rest : List ℕ) (error : WireError) → outer ≡ most + 1 → bytes ≡ b ∷ rest → 128 ≤ b → VarintFault most rest error → VarintFault outer bytes error
fault_behind most outer b bytes rest Truncated next e h (all, short) = subst (λ bs. VarintFault outer bs Truncated) (sym e) ((h, all), omega arith)
fault_behind most outer b bytes rest BadVarint next e h (inl (front, more, all, long, is)) = inl (b ∷ front, more, (h, all), omega (arith, long), cc)
fault_behind most outer b bytes rest BadVarint next e h (inr (front, more, (n, spelled, large, is))) = inr (b ∷ front, more, (n * 128 + (b - 128), inr (h, (n, omega arith, spelled)), omega arith, cc))
fault_behind most outer b bytes rest BadKey next e h fault = fault
fault_behind most outer b bytes rest BadWireType next e h fault = fault
fault_behind most outer b bytes rest EndGroupMismatch next e h fault = fault
fault_behind most outer b bytes rest TooDeep next e h fault = fault
fault_behind most outer b bytes rest BadUtf8 next e h fault = fault
fault_behind most outer b bytes rest TooLong next e h fault = fault
fault_behind most outer b bytes rest Memory next e h fault = fault

-- what a refusal tells may be told in other words
pub tells_as : (F G : List ℕ → WireError → Type 0) (bytes all : List ℕ) (e : WireError) → (F bytes e → G all e) → TellsTrue F bytes e → TellsTrue G all e
tells_as F G bytes all Memory f h = tt
tells_as F G bytes all Truncated f h = f h
tells_as F G bytes all BadVarint f h = f h
tells_as F G bytes all BadKey f h = f h
tells_as F G bytes all BadWireType f h = f h
tells_as F G bytes all EndGroupMismatch f h = f h
tells_as F G bytes all TooDeep f h = f h
tells_as F G bytes all BadUtf8 f h = f h
tells_as F G bytes all TooLong f h = f h

-- what is not for want of memory tells itself
pub tells_fault : (F : List ℕ → WireError → Type 0) (bytes : List ℕ) (e : WireError) → F bytes e → TellsTrue F bytes e
tells_fault F bytes Memory h = tt
tells_fault F bytes Truncated h = h
tells_fault F bytes BadVarint h = h
tells_fault F bytes BadKey h = h
tells_fault F bytes BadWireType h = h
tells_fault F bytes EndGroupMismatch h = h
tells_fault F bytes TooDeep h = h
tells_fault F bytes BadUtf8 h = h
tells_fault F bytes TooLong h = h

-- values, by the form of the key
form : (P : WireType → Type 0) (w v : WireType) → w ≡ v → P v → P w
form P w v e h = subst P (sym e) h

pub varint_fault : (levels : ℕ) (key : WireKey) (bytes : List ℕ) (e : WireError) → key.wire ≡ wires.Varint → VarintFault 10 bytes e → ValueFault levels key bytes e
varint_fault zero key bytes e w h = form (λ v. FormFault (λ n bytes e. IsTooDeep e) key.number v bytes e) key.wire wires.Varint w h
varint_fault (suc levels) key bytes e w h = form (λ v. FormFault (λ n bytes e. GroupFault levels n bytes e) key.number v bytes e) key.wire wires.Varint w h

pub fixed64_fault : (levels : ℕ) (key : WireKey) (bytes : List ℕ) (e : WireError) → key.wire ≡ wires.SixtyFourBit → FixedFault 8 bytes e → ValueFault levels key bytes e
fixed64_fault zero key bytes e w h = form (λ v. FormFault (λ n bytes e. IsTooDeep e) key.number v bytes e) key.wire wires.SixtyFourBit w h
fixed64_fault (suc levels) key bytes e w h = form (λ v. FormFault (λ n bytes e. GroupFault levels n bytes e) key.number v bytes e) key.wire wires.SixtyFourBit w h

pub fixed32_fault : (levels : ℕ) (key : WireKey) (bytes : List ℕ) (e : WireError) → key.wire ≡ wires.ThirtyTwoBit → FixedFault 4 bytes e → ValueFault levels key bytes e
fixed32_fault zero key bytes e w h = form (λ v. FormFault (λ n bytes e. IsTooDeep e) key.number v bytes e) key.wire wires.ThirtyTwoBit w h
fixed32_fault (suc levels) key bytes e w h = form (λ v. FormFault (λ n bytes e. GroupFault levels n bytes e) key.number v bytes e) key.wire wires.ThirtyTwoBit w h

pub delimited_fault : (levels : ℕ) (key : WireKey) (bytes : List ℕ) (e : WireError) → key.wire ≡ wires.LengthDelimited → DelimitedFault bytes e → ValueFault levels key bytes e
delimited_fault zero key bytes e w h = form (λ v. FormFault (λ n bytes e. IsTooDeep e) key.number v bytes e) key.wire wires.LengthDelimited w h
delimited_fault (suc levels) key bytes e w h = form (λ v. FormFault (λ n bytes e. GroupFault levels n bytes e) key.number v bytes e) key.wire wires.LengthDelimited w h

pub group_fault : (levels : ℕ) (key : WireKey) (bytes : List ℕ) (e : WireError) → key.wire ≡ wires.StartGroup → (levels ≡ 0 → ⊥) → GroupFault (levels - 1) key.number bytes e → ValueFault levels key bytes e
group_fault zero key bytes e w some h = absurd (some refl)
group_fault (suc levels) key bytes e w some h =
    let less : suc levels - 1 ≡ levels = omega arith in
    form (λ v. FormFault (λ n bytes e. GroupFault levels n bytes e) key.number v bytes e) key.wire wires.StartGroup w (subst (λ l. GroupFault l key.number bytes e) less h)
