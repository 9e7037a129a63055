-- Packed records (protobuf.dev, "Encoding", Repeated Elements): values of a kind, one behind the
-- other, with no keys.
use Rattle.std.specs.Prelude.{◌≡◌, ◌≢◌, ℕ, List, [], ◌∷◌, ◌++◌, map, Some}
use Rattle.reflect_wire.specs.Reads.{Fronts}
use Rattle.reflect_wire.specs.declared.wire_error.WireError.{WireError}
use Rattle.reflect_pool.specs.declared.kind.Kind.{Kind}
use Rattle.reflect_scalar.specs.Kinds.{wire_type}
use Rattle.reflect_scalar.specs.Meaning.{IsScalar, ScalarFault}
use Rattle.reflect_scalar.specs.Singles.{Single}
use Rattle.reflect_message.specs.Singles.{single}
use Rattle.reflect_message.specs.Names.{Value}

-- the bytes spell these values of the kind
abbrev pub IsPacked : Kind → List ℕ → List Single → Type 0
IsPacked kind bytes [] = bytes ≡ []
IsPacked kind bytes (v ∷ vs) = (front rest : List ℕ) × IsScalar kind (wire_type kind) front v
    × IsPacked kind rest vs × (bytes ≡ front ++ rest)

-- why they spell none: behind some values stands what is no value
abbrev pub PackedFault : Kind → List ℕ → WireError → Type 0
PackedFault kind bytes e = (vs : List Single)
    × ((rest : List ℕ) × Fronts (IsPacked kind) bytes vs rest × (rest ≢ [])
    × ScalarFault kind (wire_type kind) rest e)

-- behind the old values stand these
abbrev pub Continues : List Value → List Value → List Single → Type 0
Continues old new vs = (added : List Value) × (new ≡ old ++ added)
    × (map single added ≡ map Some vs)
