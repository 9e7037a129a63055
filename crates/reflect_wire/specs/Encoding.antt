-- The one form in which each value is written.
use Rattle.std.specs.Prelude.{◌≡◌, ℕ, zero, suc, ◌+◌, ◌/◌, ◌%◌, ◌^◌, ◌≤◌, List, [], ◌∷◌, ◌++◌, length, take, if◌then◌else◌, nat_lt}
use Rattle.std.specs.Int.{w32, w64, to_le_bytes}
use Rattle.reflect_wire.specs.declared.wire_key.WireKey.{WireKey}
use Rattle.reflect_wire.specs.declared.wire_key.WireType.TheVariants.{EndGroup}
use Rattle.reflect_wire.specs.declared.wire_error.WireError.{WireError}
use Rattle.reflect_wire.specs.declared.wire_error.WireError.TheVariants as errors
use Rattle.reflect_wire.specs.Key.{key_code}
use Rattle.reflect_wire.specs.Records.{Payload, varint, fixed64, delimited, group, fixed32, Records, no_records, more_records, key_of, wire_of}

-- the low seven bits first, each byte but the last with 128 added; `more` is at least how many
-- bytes follow the first
abbrev pub varint_within : ℕ → ℕ → List ℕ
varint_within zero n = n ∷ []
varint_within (suc more) n = if nat_lt n 128 then n ∷ [] else (n % 128 + 128)
    ∷ varint_within more (n / 128)

-- a number is more than the bytes that follow the first
unfoldable pub varint_bytes : ℕ → List ℕ
varint_bytes n = varint_within n n

abbrev pub key_bytes : WireKey → List ℕ
key_bytes key = varint_bytes (key_code key)

abbrev pub delimited_bytes : List ℕ → List ℕ
delimited_bytes payload = varint_bytes (length payload) ++ payload

abbrev mutual
  -- what stands behind the key of a record of this number
  pub payload_bytes : ℕ → Payload → List ℕ
  payload_bytes n (varint v) = varint_bytes v
  payload_bytes n (fixed64 v) = to_le_bytes w64 v
  payload_bytes n (delimited p) = delimited_bytes p
  payload_bytes n (group rs) = records_bytes rs ++ key_bytes (key_of n EndGroup)
  payload_bytes n (fixed32 v) = to_le_bytes w32 v

  pub records_bytes : Records → List ℕ
  records_bytes no_records = []
  records_bytes (more_records n p rs) = (key_bytes (key_of n (wire_of p)) ++ payload_bytes n p)
      ++ records_bytes rs

abbrev pub field_bytes : ℕ × Payload → List ℕ
field_bytes r = key_bytes (key_of r.0 (wire_of r.1)) ++ payload_bytes r.0 r.1

-- what stood before stays in front
abbrev pub KeepsFront : List ℕ → List ℕ → Type 0
KeepsFront old new = take (length old) new ≡ old

-- why bytes are not written: they are more than a length can say, or memory ran out
abbrev pub IsUnwritten : List ℕ → WireError → Type 0
IsUnwritten bytes errors.TooLong = 2 ^ 64 ≤ length bytes
IsUnwritten bytes errors.Memory = Unit {0}
IsUnwritten bytes _ = ⊥
