-- What records hold that are read from bytes is bytes.
use Rattle.std.proofs.Common.{ℕ, zero, suc, ◌<◌, nat_lt, Bool, true, false, cond, List, [], ◌∷◌, length, take, drop}
use Rattle.std.specs.Prelude.{◌+◌, ◌-◌, ◌*◌, ◌/◌, ◌%◌}
use Rattle.std.specs.List.{AllByRecursion}
use Rattle.reflect_wire.specs.Records.{Payload, varint, fixed64, delimited, group, fixed32, Records, no_records, more_records}
use Rattle.reflect_wire.specs.Written.{AreBytes}
use Rattle.reflect_wire.specs.declared.wire_key.WireType.{WireType}
use Rattle.reflect_wire.specs.declared.wire_key.WireType.TheVariants.{Varint, SixtyFourBit, LengthDelimited, StartGroup, EndGroup, ThirtyTwoBit}
use Rattle.protobuf_model.specs.Reader.{number_front, wire_in, payload_front, with_record, behind_key, records_front, list_of, inside, inside_of, row_front, row}

abbrev pub AreSmall : List ℕ → Type 0
AreSmall bytes = AllByRecursion (λ b. b < 256) bytes

pub small_bytes : (bytes : List ℕ) → AreBytes bytes → AreSmall bytes
small_bytes [] h = tt
small_bytes (b ∷ bs) h = (h.0, small_bytes bs h.1)

abbrev mutual
  pub HoldsBytes : Payload → Type 0
  HoldsBytes (varint n) = Unit {0}
  HoldsBytes (fixed64 n) = Unit {0}
  HoldsBytes (delimited bytes) = AreSmall bytes
  HoldsBytes (group rs) = HoldBytes rs
  HoldsBytes (fixed32 n) = Unit {0}

  pub HoldBytes : Records → Type 0
  HoldBytes no_records = Unit {0}
  HoldBytes (more_records n p rs) = HoldsBytes p × HoldBytes rs

abbrev pub EachHoldsBytes : List (ℕ × Payload) → Type 0
EachHoldsBytes rs = AllByRecursion (λ (r : ℕ × Payload). HoldsBytes r.1) rs

take_small : (n : ℕ) (bytes : List ℕ) → AreSmall bytes → AreSmall (take n bytes)
take_small zero [] h = tt
take_small zero (b ∷ bs) h = tt
take_small (suc n) [] h = tt
take_small (suc n) (b ∷ bs) h = (h.0, take_small n bs h.1)

drop_small : (n : ℕ) (bytes : List ℕ) → AreSmall bytes → AreSmall (drop n bytes)
drop_small zero [] h = h
drop_small zero (b ∷ bs) h = h
drop_small (suc n) [] h = tt
drop_small (suc n) (b ∷ bs) h = drop_small n bs h.1

number_small : (bytes : List ℕ) → AreSmall bytes → AreSmall (number_front bytes).1
number_small [] h = tt
number_small (b ∷ bs) h = by (nat_lt b 128) (number_small bs h.1) where
  by : (t : Bool) → AreSmall (number_front bs).1 → AreSmall (cond {A = ℕ × List ℕ} t (b, bs) (b - 128 + 128 * (number_front bs).0, (number_front bs).1)).1
  by true later = h.1
  by false later = later

-- what a reader of records leaves and gives
abbrev KeepsBytes : (List ℕ → Records × List ℕ) → Type 0
KeepsBytes inner = (bytes : List ℕ) → AreSmall bytes → HoldBytes (inner bytes).0 × AreSmall (inner bytes).1

payload_small : (inner : List ℕ → Records × List ℕ) → KeepsBytes inner → (w : WireType) (bytes : List ℕ) → AreSmall bytes → HoldsBytes (payload_front inner w bytes).0 × AreSmall (payload_front inner w bytes).1
payload_small inner keeps Varint bytes h = (tt, number_small bytes h)
payload_small inner keeps SixtyFourBit bytes h = (tt, drop_small 8 bytes h)
payload_small inner keeps LengthDelimited bytes h =
    let behind = number_small bytes h in
    (take_small (number_front bytes).0 (number_front bytes).1 behind, drop_small (number_front bytes).0 (number_front bytes).1 behind)
payload_small inner keeps StartGroup bytes h = keeps bytes h
payload_small inner keeps EndGroup bytes h = (tt, h)
payload_small inner keeps ThirtyTwoBit bytes h = (tt, drop_small 4 bytes h)

with_small : (inner : List ℕ → Records × List ℕ) → KeepsBytes inner → (n : ℕ) (p : Payload × List ℕ) → HoldsBytes p.0 × AreSmall p.1 → HoldBytes (with_record inner n p).0 × AreSmall (with_record inner n p).1
with_small inner keeps n p h = let rest = keeps p.1 h.1 in ((h.0, rest.0), rest.1)

behind_small : (inner : List ℕ → Records × List ℕ) → KeepsBytes inner → (n : ℕ) (w : WireType) (bytes : List ℕ) → AreSmall bytes → HoldBytes (behind_key inner n w bytes).0 × AreSmall (behind_key inner n w bytes).1
behind_small inner keeps n Varint bytes h = with_small inner keeps n (payload_front inner Varint bytes) (payload_small inner keeps Varint bytes h)
behind_small inner keeps n SixtyFourBit bytes h = with_small inner keeps n (payload_front inner SixtyFourBit bytes) (payload_small inner keeps SixtyFourBit bytes h)
behind_small inner keeps n LengthDelimited bytes h = with_small inner keeps n (payload_front inner LengthDelimited bytes) (payload_small inner keeps LengthDelimited bytes h)
behind_small inner keeps n StartGroup bytes h = with_small inner keeps n (payload_front inner StartGroup bytes) (payload_small inner keeps StartGroup bytes h)
behind_small inner keeps n EndGroup bytes h = (tt, h)
behind_small inner keeps n ThirtyTwoBit bytes h = with_small inner keeps n (payload_front inner ThirtyTwoBit bytes) (payload_small inner keeps ThirtyTwoBit bytes h)

records_small : (left : ℕ) → KeepsBytes (records_front left)
records_small zero bytes h = (tt, h)
records_small (suc left) [] h = (tt, tt)
records_small (suc left) (b ∷ bs) h =
    behind_small (records_front left) (records_small left) ((number_front (b ∷ bs)).0 / 8) (wire_in ((number_front (b ∷ bs)).0 % 8)) (number_front (b ∷ bs)).1 (number_small (b ∷ bs) h)

listed_small : (rs : Records) → HoldBytes rs → EachHoldsBytes (list_of rs)
listed_small no_records h = tt
listed_small (more_records n p rs) h = (h.0, listed_small rs h.1)

pub inside_small : (bytes : List ℕ) → AreSmall bytes → EachHoldsBytes (inside bytes)
unfolding inside
inside_small bytes h = listed_small (records_front (suc (length bytes)) bytes).0 (records_small (suc (length bytes)) bytes h).0

-- the records inside a payload
pub inside_of_small : (p : Payload) → HoldsBytes p → EachHoldsBytes (inside_of p)
inside_of_small (varint n) h = tt
inside_of_small (fixed64 n) h = tt
inside_of_small (delimited body) h = inside_small body h
inside_of_small (group rs) h = listed_small rs h
inside_of_small (fixed32 n) h = tt

-- payloads one behind the other
pub row_small : (w : WireType) (bytes : List ℕ) → AreSmall bytes → AllByRecursion HoldsBytes (row w bytes)
unfolding row
row_small w bytes h = by (length bytes) bytes h where
  by : (left : ℕ) (bytes : List ℕ) → AreSmall bytes → AllByRecursion HoldsBytes (row_front w left bytes)
  by zero bytes h = tt
  by (suc left) [] h = tt
  by (suc left) (b ∷ bs) h =
      let first = payload_small (λ rest. (no_records, rest)) (λ rest h. (tt, h)) w (b ∷ bs) h in
      (first.0, by left (payload_front (λ rest. (no_records, rest)) w (b ∷ bs)).1 first.1)
