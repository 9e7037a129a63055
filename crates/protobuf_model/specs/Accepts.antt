-- Which lists of records a type accepts (protobuf.dev, "Encoding", Message Structure, Packed
-- Repeated Fields, Groups, Maps).
use Rattle.std.specs.Prelude.{◌≡◌, ◌⊎◌, ℕ, zero, suc, ◌<◌, ◌^◌, true, List, [], ◌∷◌, ◌++◌, Option, None, Some}
use Rattle.std.specs.List.{AllByRecursion}
use Rattle.reflect_wire.specs.declared.wire_key.WireType.{WireType}
use Rattle.reflect_wire.specs.Records.{Payload, delimited, group, SpellsPayload, SpellsRecords, wire_of}
use Rattle.reflect_wire.specs.Views.{records_of}
use Rattle.reflect_wire.specs.Written.{FitsPayload}
use Rattle.protobuf_model.specs.Values.{Single}
use Rattle.protobuf_model.specs.Types.{Name, Scalar, Frame, sized, tagged, Kind, scalar, nested, Part, Key, Label, one, many, keyed, Field, Types}
use Rattle.protobuf_model.specs.Scalars.{meant, packs, wire_type, Suits}
use Rattle.protobuf_model.specs.Reader.{inside, inside_of, row}

-- a payload means a value of the kind
abbrev pub IsScalar : Scalar → Payload → Type 0
IsScalar k p = (v : Single) × (meant k p ≡ v ∷ []) × Suits k v

-- a payload has the form of the frame, and its bytes spell records
abbrev pub IsFramed : ℕ → Frame → Payload → Type 0
IsFramed levels sized (delimited body) = SpellsRecords levels body (records_of (inside body))
IsFramed levels tagged (group rs) = Unit {0}
IsFramed levels _ _ = ⊥

-- which payloads messages of a type have in a frame
abbrev pub Acceptable : Type 1
Acceptable = Frame → Name → Payload → Type 0

-- a payload of a single value, where `inner` says which ones messages have
abbrev pub AcceptsPart : Acceptable → Kind → Payload → Type 0
AcceptsPart inner (scalar k) p = IsScalar k p
AcceptsPart inner (nested frame u) p = inner frame u p

-- bytes spell payloads of the form, one behind the other
abbrev pub SpellsRow : WireType → List ℕ → List Payload → Type 0
SpellsRow w bytes [] = bytes ≡ []
SpellsRow w bytes (p ∷ ps) =
    (front rest : List ℕ) × (wire_of p ≡ w) × SpellsPayload 0 0 front p × SpellsRow w rest ps
    × (bytes ≡ front ++ rest)

-- a record of packed values
abbrev pub IsPacked : Kind → Payload → Type 0
IsPacked (scalar k) (delimited body) =
    (packs k ≡ true)
    × SpellsRow (wire_type k) body (row (wire_type k) body)
    × AllByRecursion (IsScalar k) (row (wire_type k) body)
IsPacked _ _ = ⊥

-- a record of an entry: the key under 1, the value under 2, and others
abbrev pub AcceptsEntryRecord : Acceptable → Key → Part → ℕ × Payload → Type 0
AcceptsEntryRecord inner key part (zero, p) = Unit {0}
AcceptsEntryRecord inner key part (suc zero, p) = IsScalar key.kind p
AcceptsEntryRecord inner key part (suc (suc zero), p) = AcceptsPart inner part.kind p
AcceptsEntryRecord inner key part (suc (suc (suc n)), p) = Unit {0}

-- a message value counts one level, written or not
abbrev pub HasLevel : ℕ → Kind → Type 0
HasLevel levels (scalar k) = Unit {0}
HasLevel levels (nested frame u) = 0 < levels

-- an entry stands at the level of the message that has the map
abbrev pub AcceptsEntry : Acceptable → ℕ → Key → Part → Payload → Type 0
AcceptsEntry inner levels key part (delimited body) =
    HasLevel levels part.kind
    × SpellsRecords levels body (records_of (inside body))
    × AllByRecursion (AcceptsEntryRecord inner key part) (inside body)
AcceptsEntry inner levels key part _ = ⊥

-- a payload of a field; of one that no field has any payload is
abbrev pub AcceptsField : Acceptable → ℕ → Part → Label → Payload → Type 0
AcceptsField inner levels part one p = AcceptsPart inner part.kind p
AcceptsField inner levels part (many packed) p = AcceptsPart inner part.kind p
    ⊎ IsPacked part.kind p
AcceptsField inner levels part (keyed key) p = AcceptsEntry inner levels key part p

abbrev pub AcceptsIn : Acceptable → ℕ → Option Field → Payload → Type 0
AcceptsIn inner levels None p = Unit {0}
AcceptsIn inner levels (Some f) p = AcceptsField inner levels f.part f.label p

pub record AcceptsRecord (inner : Acceptable) (levels : ℕ) (type : ℕ → Option Field)
    (r : ℕ × Payload) : Type 0 where
  pub some : 0 < r.0
  pub small : r.0 < 2 ^ 29
  pub fits : FitsPayload levels r.1
  pub suits : AcceptsIn inner levels (type r.0) r.1

abbrev pub AcceptsBy : Acceptable → ℕ → Types → Name → List (ℕ × Payload) → Type 0
AcceptsBy inner levels types t rs = AllByRecursion (AcceptsRecord inner levels (types t)) rs

-- the type accepts the records, with at most so many levels of messages and groups below
abbrev pub Accepts : ℕ → Types → Name → List (ℕ × Payload) → Type 0
Accepts zero types = AcceptsBy (λ frame u p. ⊥) zero types
Accepts (suc levels) types =
    AcceptsBy (λ frame u p. IsFramed levels frame p × Accepts levels types u (inside_of p))
    (suc levels) types
