-- Records, and the bytes that spell them.
use Rattle.std.specs.Prelude.{◌≡◌, ℕ, ◌<◌, ◌-◌, List, [], ◌++◌}
use Rattle.reflect_wire.specs.declared.wire_key.WireKey.{WireKey}
use Rattle.reflect_wire.specs.declared.wire_key.WireType.{WireType}
use Rattle.reflect_wire.specs.declared.wire_key.WireType.TheVariants as wires
use Rattle.reflect_wire.specs.Varint.{IsVarint}
use Rattle.reflect_wire.specs.Key.{IsKey, IsDelimited, IsFixed32, IsFixed64}

mutual
  pub data Payload : Type 0 where
    varint : ℕ → Payload
    fixed64 : ℕ → Payload
    delimited : List ℕ → Payload
    group : Records → Payload
    fixed32 : ℕ → Payload

  pub data Records : Type 0 where
    no_records : Records
    more_records : ℕ → Payload → Records → Records

abbrev pub key_of : ℕ → WireType → WireKey
key_of n w = record { number = n; wire = w }

-- the form that a payload is written in
abbrev pub wire_of : Payload → WireType
wire_of (varint n) = wires.Varint
wire_of (fixed64 n) = wires.SixtyFourBit
wire_of (delimited p) = wires.LengthDelimited
wire_of (group rs) = wires.StartGroup
wire_of (fixed32 n) = wires.ThirtyTwoBit

abbrev mutual
  -- the bytes behind the key of a number spell a payload, of at most so many levels of groups
  pub SpellsPayload : ℕ → ℕ → List ℕ → Payload → Type 0
  SpellsPayload levels n bytes (varint v) = IsVarint bytes v
  SpellsPayload levels n bytes (fixed64 v) = IsFixed64 bytes v
  SpellsPayload levels n bytes (delimited p) = IsDelimited bytes p
  SpellsPayload levels n bytes (group rs) = (0 < levels)
      × ((body end : List ℕ) × SpellsRecords (levels - 1) body rs
      × IsKey end (key_of n wires.EndGroup) × (bytes ≡ body ++ end))
  SpellsPayload levels n bytes (fixed32 v) = IsFixed32 bytes v

  -- the bytes spell records, one after another
  pub SpellsRecords : ℕ → List ℕ → Records → Type 0
  SpellsRecords levels bytes no_records = bytes ≡ []
  SpellsRecords levels bytes (more_records n p rs) =
      (key value rest : List ℕ) × IsKey key (key_of n (wire_of p)) × SpellsPayload levels n value p
      × SpellsRecords levels rest rs × (bytes ≡ key ++ (value ++ rest))

-- the bytes behind a key spell a payload of its form
abbrev pub IsValue : ℕ → WireKey → List ℕ → Payload → Type 0
IsValue levels key bytes p = (key.wire ≡ wire_of p) × SpellsPayload levels key.number bytes p

-- the bytes behind a group's key spell its records, with its end
abbrev pub IsGroup : ℕ → ℕ → List ℕ → Records → Type 0
IsGroup levels n bytes rs = (body end : List ℕ) × SpellsRecords levels body rs
    × IsKey end (key_of n wires.EndGroup) × (bytes ≡ body ++ end)

-- the bytes spell one record
abbrev pub IsField : ℕ → List ℕ → ℕ × Payload → Type 0
IsField levels bytes r = (key value : List ℕ) × IsKey key (key_of r.0 (wire_of r.1))
    × SpellsPayload levels r.0 value r.1 × (bytes ≡ key ++ value)
