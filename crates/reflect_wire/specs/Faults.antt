-- What a refusal says of the bytes.
use Rattle.std.specs.Prelude.{◌≡◌, ◌⊎◌, ℕ, zero, suc, ◌<◌, ◌≤◌, ◌^◌, List, [], ◌∷◌, ◌++◌, length}
use Rattle.reflect_wire.specs.declared.wire_error.WireError.{WireError}
use Rattle.reflect_wire.specs.declared.wire_error.WireError.TheVariants.{Truncated, BadVarint, BadKey, EndGroupMismatch, TooDeep, Memory}
use Rattle.reflect_wire.specs.declared.wire_key.WireKey.{WireKey}
use Rattle.reflect_wire.specs.declared.wire_key.WireType.{WireType}
use Rattle.reflect_wire.specs.declared.wire_key.WireType.TheVariants as wires
use Rattle.reflect_wire.specs.Key.{IsKey, key_code}
use Rattle.reflect_wire.specs.Reads.{Fronts}
use Rattle.reflect_wire.specs.Records.{Records, SpellsRecords}
use Rattle.reflect_wire.specs.Varint.{SpellsVarint, IsVarint}

-- none of the bytes is the last of a number
abbrev pub GoOn : List ℕ → Type 0
GoOn [] = Unit {0}
GoOn (b ∷ bs) = (128 ≤ b) × GoOn bs

-- so many bytes stand at the front of which none is the last of a number
abbrev pub IsOverlong : ℕ → List ℕ → Type 0
IsOverlong most bytes = (front rest : List ℕ) × GoOn front × (length front ≡ most)
    × (bytes ≡ front ++ rest)

-- the number at the front has more than 64 bits
abbrev pub IsOverlarge : List ℕ → Type 0
IsOverlarge bytes = (front rest : List ℕ)
    × ((n : ℕ) × SpellsVarint front n × (2 ^ 64 ≤ n) × (bytes ≡ front ++ rest))

-- why no number of at most so many bytes stands at the front
abbrev pub VarintFault : ℕ → List ℕ → WireError → Type 0
VarintFault most bytes Truncated = GoOn bytes × (length bytes < most)
VarintFault most bytes BadVarint = IsOverlong most bytes ⊎ IsOverlarge bytes
VarintFault most bytes _ = ⊥

-- no key is written as the number
abbrev pub IsNoKey : ℕ → Type 0
IsNoKey n = (key : WireKey) → 0 < key.number → key.number < 2 ^ 29 → n ≡ key_code key → ⊥

abbrev pub KeyFault : List ℕ → WireError → Type 0
KeyFault bytes BadKey = (n : ℕ) × ((rest : List ℕ) × Fronts IsVarint bytes n rest × IsNoKey n)
KeyFault bytes e = VarintFault 10 bytes e

-- the bytes end inside the length, or inside the payload
abbrev pub DelimitedFault : List ℕ → WireError → Type 0
DelimitedFault bytes Truncated = VarintFault 10 bytes Truncated
    ⊎ ((n : ℕ) × ((rest : List ℕ) × Fronts IsVarint bytes n rest × (length rest < n)))
DelimitedFault bytes e = VarintFault 10 bytes e

abbrev pub FixedFault : ℕ → List ℕ → WireError → Type 0
FixedFault size bytes Truncated = length bytes < size
FixedFault size bytes _ = ⊥

abbrev pub IsTooDeep : WireError → Type 0
IsTooDeep TooDeep = Unit {0}
IsTooDeep _ = ⊥

abbrev pub IsEndMismatch : WireError → Type 0
IsEndMismatch EndGroupMismatch = Unit {0}
IsEndMismatch _ = ⊥

-- why no value of the form stands at the front, given why no group of the number does
abbrev pub FormFault : (ℕ → List ℕ → WireError → Type 0) → ℕ → WireType → List ℕ → WireError
    → Type 0
FormFault group n wires.Varint bytes e = VarintFault 10 bytes e
FormFault group n wires.SixtyFourBit bytes e = FixedFault 8 bytes e
FormFault group n wires.LengthDelimited bytes e = DelimitedFault bytes e
FormFault group n wires.StartGroup bytes e = group n bytes e
FormFault group n wires.EndGroup bytes e = IsEndMismatch e
FormFault group n wires.ThirtyTwoBit bytes e = FixedFault 4 bytes e

-- behind some records stands no key, an end of another number, or a key without its value
abbrev pub RecordsFault : (WireKey → Type 0) → (WireKey → List ℕ → WireError → Type 0) → ℕ → List ℕ
    → WireError → Type 0
RecordsFault IsWrongEnd value levels bytes e = (rs : Records)
    × ((rest : List ℕ) × Fronts (SpellsRecords levels) bytes rs rest
    × (KeyFault rest e ⊎ ((key : WireKey)
    × ((behind : List ℕ) × Fronts IsKey rest key behind
    × ((IsWrongEnd key × IsEndMismatch e) ⊎ value key behind e)))))

abbrev pub IsOtherEnd : ℕ → WireKey → Type 0
IsOtherEnd n key = (key.wire ≡ wires.EndGroup) × (key.number ≡ n → ⊥)

-- why no value of the key stands at the front, with at most so many levels of groups
abbrev pub ValueFault : ℕ → WireKey → List ℕ → WireError → Type 0
ValueFault zero key bytes e = FormFault (λ n bytes e. IsTooDeep e) key.number key.wire bytes e
ValueFault (suc levels) key bytes e =
    FormFault (λ n bytes e. RecordsFault (IsOtherEnd n) (ValueFault levels) levels bytes e)
    key.number key.wire bytes e

-- why no group of the number ends what stands at the front
abbrev pub GroupFault : ℕ → ℕ → List ℕ → WireError → Type 0
GroupFault levels n = RecordsFault (IsOtherEnd n) (ValueFault levels) levels

-- why no record stands at the front
abbrev pub FieldFault : ℕ → List ℕ → WireError → Type 0
FieldFault levels bytes e = KeyFault bytes e
    ⊎ ((key : WireKey) × ((rest : List ℕ) × Fronts IsKey bytes key rest
    × ValueFault levels key rest e))

-- why the bytes are no records
abbrev pub SetFault : ℕ → List ℕ → WireError → Type 0
SetFault levels bytes e = (rs : Records)
    × ((rest : List ℕ) × Fronts (SpellsRecords levels) bytes rs rest × FieldFault levels rest e)

-- a refusal is for want of memory, or true of the bytes
abbrev pub TellsTrue : (List ℕ → WireError → Type 0) → List ℕ → WireError → Type 0
TellsTrue Fault bytes Memory = Unit {0}
TellsTrue Fault bytes e = Fault bytes e
