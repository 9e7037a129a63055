-- Records that bytes spell fit their forms, and what is inside them are bytes.
use Rattle.std.proofs.Common.{ℕ, zero, suc, ◌<◌, ◌-◌, ◌^◌, List, [], ◌∷◌, ◌++◌, get_or, sym, subst, arith}
use Rattle.std.specs.Int.{w32, w64, from_le_bytes}
use Rattle.std.specs.List.{AllByRecursion}
use Rattle.reflect_wire.specs.Records.{Payload, varint, fixed64, delimited, group, fixed32, Records, no_records, more_records, SpellsPayload, SpellsRecords}
use Rattle.reflect_wire.specs.Views.{records_of}
use Rattle.reflect_wire.specs.Written.{AreBytes, FitsPayload, FitsRecords}
use Rattle.reflect_wire.proofs.Spelling.{records_fit}

abbrev mutual
  pub HasBytes : Payload → Type 0
  HasBytes (delimited p) = AreBytes p
  HasBytes (group rs) = HaveBytes rs
  HasBytes _ = Unit {0}

  pub HaveBytes : Records → Type 0
  HaveBytes no_records = Unit {0}
  HaveBytes (more_records n p rs) = HasBytes p × HaveBytes rs

pub front_bytes : (a b : List ℕ) → AreBytes (a ++ b) → AreBytes a
front_bytes [] b h = tt
front_bytes (x ∷ a) b h = (h.0, front_bytes a b h.1)

pub back_bytes : (a b : List ℕ) → AreBytes (a ++ b) → AreBytes b
back_bytes [] b h = h
back_bytes (x ∷ a) b h = back_bytes a b h.1

mutual
  inside_payload : (levels n : ℕ) (bytes : List ℕ) (p : Payload) → AreBytes bytes → SpellsPayload levels n bytes p → HasBytes p
  inside_payload levels n bytes (varint v) b h = tt
  inside_payload levels n bytes (fixed64 v) b h = tt
  inside_payload levels n bytes (delimited p) b h = back_bytes h.0 p (subst AreBytes h.2 b)
  inside_payload levels n bytes (group rs) b h = inside_records (levels - 1) h.1.0 rs (front_bytes h.1.0 h.1.1 (subst AreBytes h.1.4 b)) h.1.2
  inside_payload levels n bytes (fixed32 v) b h = tt

  inside_records : (levels : ℕ) (bytes : List ℕ) (rs : Records) → AreBytes bytes → SpellsRecords levels bytes rs → HaveBytes rs
  inside_records levels bytes no_records b h = tt
  inside_records levels bytes (more_records n p rs) b h =
      let behind = back_bytes h.0 (h.1 ++ h.2) (subst AreBytes h.6 b) in
      (inside_payload levels n h.1 p (front_bytes h.1 h.2 behind) h.4, inside_records levels h.2 rs (back_bytes h.1 h.2 behind) h.5)

-- a record that bytes spell
pub record IsPlainRecord (levels : ℕ) (r : ℕ × Payload) : Type 0 where
  pub some : 0 < r.0
  pub small : r.0 < 2 ^ 29
  pub fits : FitsPayload levels r.1
  pub bytes : HasBytes r.1

pub plain_records : (levels : ℕ) (rs : List (ℕ × Payload)) → FitsRecords levels (records_of rs) → HaveBytes (records_of rs) → AllByRecursion (IsPlainRecord levels) rs
plain_records levels [] f b = tt
plain_records levels (r ∷ rs) f b = (record { some = f.0; small = f.1; fits = f.2; bytes = b.0 }, plain_records levels rs f.3 b.1)

pub spelled_plain : (levels : ℕ) (bytes : List ℕ) (rs : List (ℕ × Payload)) → AreBytes bytes → SpellsRecords levels bytes (records_of rs) → AllByRecursion (IsPlainRecord levels) rs
spelled_plain levels bytes rs b h = plain_records levels rs (records_fit levels bytes (records_of rs) b h) (inside_records levels bytes (records_of rs) b h)

byte_at : (bytes : List ℕ) (i : ℕ) → AreBytes bytes → get_or bytes i 0 < 256
byte_at [] i h = omega arith
byte_at (b ∷ bs) zero h = h.0
byte_at (b ∷ bs) (suc i) h = byte_at bs i h.1

fits32 : (bytes : List ℕ) → AreBytes bytes → from_le_bytes w32 bytes < 2 ^ 32
fits32 bytes h = omega (arith, byte_at bytes 0 h, byte_at bytes 1 h, byte_at bytes 2 h, byte_at bytes 3 h)

fits64 : (bytes : List ℕ) → AreBytes bytes → from_le_bytes w64 bytes < 2 ^ 64
fits64 bytes h = omega (arith, byte_at bytes 0 h, byte_at bytes 1 h, byte_at bytes 2 h, byte_at bytes 3 h, byte_at bytes 4 h, byte_at bytes 5 h, byte_at bytes 6 h, byte_at bytes 7 h)

-- a value of a packed record, which is no group
pub packed_fits : (bytes : List ℕ) (p : Payload) → AreBytes bytes → SpellsPayload 0 0 bytes p → FitsPayload 0 p
packed_fits bytes (varint v) b h = h.fits
packed_fits bytes (fixed64 v) b h = subst (λ v. v < 2 ^ 64) (sym h.1) (fits64 bytes b)
packed_fits bytes (delimited p) b h = h.1.fits
packed_fits bytes (group rs) b h = absurd (omega (arith, h.0))
packed_fits bytes (fixed32 v) b h = subst (λ v. v < 2 ^ 32) (sym h.1) (fits32 bytes b)
