-- What stands before a value, and the values without records in them.
use Rattle.std.specs.Prelude.{◌≡◌, ℕ, ◌<◌, ◌+◌, ◌*◌, ◌^◌, List, ◌++◌, length}
use Rattle.std.specs.Int.{w32, w64, from_le_bytes}
use Rattle.reflect_wire.specs.declared.wire_key.WireKey.{WireKey}
use Rattle.reflect_wire.specs.declared.wire_key.WireType.{WireType}
use Rattle.reflect_wire.specs.declared.wire_key.WireType.TheVariants.{Varint, SixtyFourBit, LengthDelimited, StartGroup, EndGroup, ThirtyTwoBit}
use Rattle.reflect_wire.specs.Varint.{IsVarint}

abbrev pub code_of : WireType → ℕ
code_of Varint = 0
code_of SixtyFourBit = 1
code_of LengthDelimited = 2
code_of StartGroup = 3
code_of EndGroup = 4
code_of ThirtyTwoBit = 5

-- the number that a key is written as
abbrev pub key_code : WireKey → ℕ
key_code key = 8 * key.number + code_of key.wire

pub record IsKey (bytes : List ℕ) (key : WireKey) : Type 0 where
  pub some : 0 < key.number
  pub small : key.number < 2 ^ 29
  pub spelled : IsVarint bytes (key_code key)

-- a length and so many bytes
abbrev pub IsDelimited : List ℕ → List ℕ → Type 0
IsDelimited bytes payload = (front : List ℕ) × IsVarint front (length payload)
    × (bytes ≡ front ++ payload)

abbrev pub IsFixed32 : List ℕ → ℕ → Type 0
IsFixed32 bytes n = (length bytes ≡ 4) × (n ≡ from_le_bytes w32 bytes)

abbrev pub IsFixed64 : List ℕ → ℕ → Type 0
IsFixed64 bytes n = (length bytes ≡ 8) × (n ≡ from_le_bytes w64 bytes)
