-- What records add to lists (protobuf.dev, "Encoding", Repeated Elements).
use Rattle.std.specs.Prelude.{◌≡◌, ◌⊎◌, ℕ, true, List, [], ◌∷◌, ◌++◌, Option, Some}
use Rattle.reflect_wire.specs.Records.{Payload, delimited}
use Rattle.reflect_pool.specs.declared.kind.Kind.{Kind}
use Rattle.reflect_scalar.specs.Kinds.{wire_type, packs}
use Rattle.reflect_scalar.specs.Meaning.{StandsFor}
use Rattle.reflect_scalar.specs.Singles.{Single}
use Rattle.reflect_decode.specs.Messages.{Taken, IsMade}
use Rattle.reflect_decode.specs.Packed.{IsPacked, Continues}
use Rattle.reflect_message.specs.Lists.{items_held}
use Rattle.reflect_message.specs.Names.{Value}

-- the record is packed, and spells these values of the kind
abbrev pub IsRow : Kind → Payload → List Single → Type 0
IsRow kind p vs = (body : List ℕ) × (p ≡ delimited body) × (packs (wire_type kind) ≡ true)
    × IsPacked kind body vs

-- one value of the kind, or, of a kind that may be packed, any number of them
abbrev pub AreElements : Kind → Payload → List Single → Type 0
AreElements kind p vs = ((v : Single) × (vs ≡ v ∷ []) × StandsFor kind p v) ⊎ IsRow kind p vs

-- behind the old values stands the record's message, or, of another kind, the values that it spells
abbrev pub Appends : Taken → Kind → List Value → List Value → Payload → Type 0
Appends taken kind old new p = ((v : Value) × IsMade taken kind p v × (new ≡ old ++ v ∷ []))
    ⊎ ((vs : List Single) × AreElements kind p vs × Continues old new vs)

-- the same for records one behind the other
abbrev pub AppendsAll : Taken → Kind → List Value → List Value → List Payload → Type 0
AppendsAll taken kind old new [] = new ≡ old
AppendsAll taken kind old new (p ∷ ps) = (between : List Value) × Appends taken kind old between p
    × AppendsAll taken kind between new ps

-- a list is continued by the values of the records
abbrev pub ContinuesList : Taken → Kind → Option Value → Option Value → List Payload → Type 0
ContinuesList taken kind old new ps = (before after : List Value) × (items_held old ≡ Some before)
    × (items_held new ≡ Some after) × AppendsAll taken kind before after ps
