-- Records that can be written and read back.
use Rattle.std.specs.Prelude.{ℕ, ◌<◌, ◌-◌, ◌^◌, List, [], ◌∷◌, length}
use Rattle.reflect_wire.specs.Records.{Payload, varint, fixed64, delimited, group, fixed32, Records, no_records, more_records}

abbrev pub AreBytes : List ℕ → Type 0
AreBytes [] = Unit {0}
AreBytes (b ∷ bs) = (b < 256) × AreBytes bs

abbrev mutual
  -- the numbers fit their forms, and at most so many groups nest
  pub FitsPayload : ℕ → Payload → Type 0
  FitsPayload levels (varint v) = v < 2 ^ 64
  FitsPayload levels (fixed64 v) = v < 2 ^ 64
  FitsPayload levels (delimited p) = length p < 2 ^ 64
  FitsPayload levels (group rs) = (0 < levels) × FitsRecords (levels - 1) rs
  FitsPayload levels (fixed32 v) = v < 2 ^ 32

  pub FitsRecords : ℕ → Records → Type 0
  FitsRecords levels no_records = Unit {0}
  FitsRecords levels (more_records n p rs) = (0 < n) × (n < 2 ^ 29) × FitsPayload levels p
      × FitsRecords levels rs
