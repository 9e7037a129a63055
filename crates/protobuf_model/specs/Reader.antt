-- The records that bytes spell, as a function: where they spell none, its answer says nothing.
use Rattle.std.specs.Prelude.{ℕ, zero, suc, ◌+◌, ◌-◌, ◌*◌, ◌/◌, ◌%◌, nat_lt, cond, List, [], ◌∷◌, length, take, drop}
use Rattle.std.specs.Int.{w32, w64, from_le_bytes}
use Rattle.reflect_wire.specs.Records.{Payload, varint, fixed64, delimited, group, fixed32, Records, no_records, more_records}
use Rattle.reflect_wire.specs.declared.wire_key.WireType.{WireType}
use Rattle.reflect_wire.specs.declared.wire_key.WireType.TheVariants.{Varint, SixtyFourBit, LengthDelimited, StartGroup, EndGroup, ThirtyTwoBit}

-- the number at the front, and what is behind it
abbrev pub number_front : List ℕ → ℕ × List ℕ
number_front [] = (0, [])
number_front (b ∷ bs) = cond (nat_lt b 128) (b, bs)
    (b - 128 + 128 * (number_front bs).0, (number_front bs).1)

abbrev pub wire_in : ℕ → WireType
wire_in zero = Varint
wire_in (suc zero) = SixtyFourBit
wire_in (suc (suc zero)) = LengthDelimited
wire_in (suc (suc (suc zero))) = StartGroup
wire_in (suc (suc (suc (suc zero)))) = EndGroup
wire_in _ = ThirtyTwoBit

-- the payload behind a key of the form, given how the records of a group are read
abbrev pub payload_front : (List ℕ → Records × List ℕ) → WireType → List ℕ → Payload × List ℕ
payload_front inner Varint bytes = (varint (number_front bytes).0, (number_front bytes).1)
payload_front inner SixtyFourBit bytes = (fixed64 (from_le_bytes w64 (take 8 bytes)), drop 8 bytes)
payload_front inner LengthDelimited bytes = (
  delimited (take (number_front bytes).0 (number_front bytes).1),
  drop (number_front bytes).0 (number_front bytes).1,
)
payload_front inner StartGroup bytes = (group (inner bytes).0, (inner bytes).1)
payload_front inner EndGroup bytes = (varint 0, bytes)
payload_front inner ThirtyTwoBit bytes = (fixed32 (from_le_bytes w32 (take 4 bytes)), drop 4 bytes)

-- a record and those behind it
abbrev pub with_record : (List ℕ → Records × List ℕ) → ℕ → Payload × List ℕ → Records × List ℕ
with_record inner n p = (more_records n p.0 (inner p.1).0, (inner p.1).1)

-- behind a key: an end tag ends the records
abbrev pub behind_key : (List ℕ → Records × List ℕ) → ℕ → WireType → List ℕ → Records × List ℕ
behind_key inner n EndGroup bytes = (no_records, bytes)
behind_key inner n w bytes = with_record inner n (payload_front inner w bytes)

-- the records up to an end tag or the end of the bytes, and what is behind them; each takes a byte
-- at least
abbrev pub records_front : ℕ → List ℕ → Records × List ℕ
records_front zero bytes = (no_records, bytes)
records_front (suc left) [] = (no_records, [])
records_front (suc left) (b ∷ bs) =
    behind_key (records_front left) ((number_front (b ∷ bs)).0 / 8)
    (wire_in ((number_front (b ∷ bs)).0 % 8))
    (number_front (b ∷ bs)).1

-- records as a list
abbrev pub list_of : Records → List (ℕ × Payload)
list_of no_records = []
list_of (more_records n p rs) = (n, p) ∷ list_of rs

unfoldable pub inside : List ℕ → List (ℕ × Payload)
inside bytes = list_of (records_front (suc (length bytes)) bytes).0

-- the records inside a payload
abbrev pub inside_of : Payload → List (ℕ × Payload)
inside_of (delimited body) = inside body
inside_of (group rs) = list_of rs
inside_of _ = []

-- payloads of the form, one behind the other without keys; `left` is at least how many bytes there
-- are
abbrev pub row_front : WireType → ℕ → List ℕ → List Payload
row_front w zero bytes = []
row_front w (suc left) [] = []
row_front w (suc left) (b ∷ bs) =
    (payload_front (λ rest. (no_records, rest)) w (b ∷ bs)).0
    ∷ row_front w left (payload_front (λ rest. (no_records, rest)) w (b ∷ bs)).1

unfoldable pub row : WireType → List ℕ → List Payload
row w bytes = row_front w (length bytes) bytes
