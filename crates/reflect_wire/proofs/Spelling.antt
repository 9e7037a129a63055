-- What is written spells what it was written of, and what is read can be written.
use Rattle.std.proofs.Common.{◌≡◌, inl, inr, ℕ, zero, suc, ◌<◌, ◌≤◌, ◌-◌, ◌/◌, ◌^◌, List, [], ◌∷◌, ◌++◌, length, get_or, refl, sym, subst, append_assoc, arith, ◌⊎◌}
use Rattle.std.proofs.lemmas.Grind.{common_steps}
use Rattle.std.proofs.Math.Nat.{pow-suc}
use Rattle.std.proofs.lemmas.Bool.{cases_lt}
use Rattle.std.proofs.lemmas.Nat.{from_le_bytes-to_le_bytes_4, from_le_bytes-to_le_bytes_8}
use Rattle.std.specs.Int.{w32, w64, to_le_bytes, from_le_bytes}
use Rattle.reflect_wire.specs.declared.wire_key.WireKey.{WireKey}
use Rattle.reflect_wire.specs.declared.wire_key.WireType.TheVariants.{EndGroup}
use Rattle.reflect_wire.specs.Varint.{SpellsVarint, IsVarint}
use Rattle.reflect_wire.specs.Key.{IsKey, key_code}
use Rattle.reflect_wire.specs.Records.{Payload, varint, fixed64, delimited, group, fixed32, Records, no_records, more_records, key_of, wire_of, SpellsPayload, SpellsRecords}
use Rattle.reflect_wire.specs.Encoding.{varint_bytes, key_bytes, payload_bytes, records_bytes}
use Rattle.reflect_wire.specs.Written.{AreBytes, FitsPayload, FitsRecords}
use Rattle.reflect_wire.proofs.Encodings.{varint_bytes-last, varint_bytes-more}
use Rattle.reflect_wire.proofs.Keys.{code_small}
use Rattle.reflect_wire.proofs.Unique.{one_group}

-- one more byte of a number: the bound on what is left
smaller : (k n : ℕ) → n < 128 ^ suc (suc k) → n / 128 < 128 ^ suc k
smaller k n h = omega (arith, h, pow-suc 128 (suc k))

spells_one : (n : ℕ) → n < 128 → (length (varint_bytes n) ≤ 1) × SpellsVarint (varint_bytes n) n
spells_one n lt = subst (λ bs. (length bs ≤ 1) × SpellsVarint bs n) (sym (varint_bytes-last n lt)) (omega arith, inl (lt, refl, refl))

spells_more : (k n : ℕ) → (n / 128 < 128 ^ suc k → (length (varint_bytes (n / 128)) ≤ suc k) × SpellsVarint (varint_bytes (n / 128)) (n / 128)) → n < 128 ^ suc (suc k)
    → (length (varint_bytes n) ≤ suc (suc k)) × SpellsVarint (varint_bytes n) n
spells_more k n deeper h = by (cases_lt n 128) where
  by : (n < 128) ⊎ (128 ≤ n) → (length (varint_bytes n) ≤ suc (suc k)) × SpellsVarint (varint_bytes n) n
  by (inl lt) = let one = spells_one n lt in (omega (arith, one.0), one.1)
  by (inr ge) =
      let rest = deeper (smaller k n h) in
      subst (λ bs. (length bs ≤ suc (suc k)) × SpellsVarint bs n) (sym (varint_bytes-more n ge)) (omega (arith, rest.0), inr (omega arith, (n / 128, omega arith, rest.1)))

-- the shortest spelling spells the number, in as many bytes as it has groups of seven bits
spells : (k n : ℕ) → n < 128 ^ suc k → (length (varint_bytes n) ≤ suc k) × SpellsVarint (varint_bytes n) n
spells zero n h = spells_one n (omega arith)
spells (suc k) n h = spells_more k n (spells k (n / 128)) h

pub varint_spelled : (n : ℕ) → n < 2 ^ 64 → IsVarint (varint_bytes n) n
varint_spelled n h = let s = spells 9 n (omega arith) in record { short = s.0; fits = h; spelled = s.1 }

pub key_spelled : (key : WireKey) → 0 < key.number → key.number < 2 ^ 29 → IsKey (key_bytes key) key
key_spelled key some small = record { some = some; small = small; spelled = varint_spelled (key_code key) (omega (arith, code_small key.wire)) }

length-le4 : (n : ℕ) → length (to_le_bytes w32 n) ≡ 4
length-le4 n = grind (arith, common_steps)

length-le8 : (n : ℕ) → length (to_le_bytes w64 n) ≡ 8
length-le8 n = grind (arith, common_steps)

mutual
  pub payload_spelled : (levels n : ℕ) (p : Payload) → 0 < n → n < 2 ^ 29 → FitsPayload levels p → SpellsPayload levels n (payload_bytes n p) p
  payload_spelled levels n (varint v) some small h = varint_spelled v h
  payload_spelled levels n (fixed64 v) some small h = (length-le8 v, sym (from_le_bytes-to_le_bytes_8 v h))
  payload_spelled levels n (delimited p) some small h = (varint_bytes (length p), varint_spelled (length p) h, refl)
  payload_spelled levels n (group rs) some small h =
      (h.0, (records_bytes rs, key_bytes (key_of n EndGroup), records_spelled (levels - 1) rs h.1, key_spelled (key_of n EndGroup) some small, refl))
  payload_spelled levels n (fixed32 v) some small h = (length-le4 v, sym (from_le_bytes-to_le_bytes_4 v h))

  pub records_spelled : (levels : ℕ) (rs : Records) → FitsRecords levels rs → SpellsRecords levels (records_bytes rs) rs
  records_spelled levels no_records h = refl
  records_spelled levels (more_records n p rs) h = (
    key_bytes (key_of n (wire_of p)),
    payload_bytes n p,
    records_bytes rs,
    key_spelled (key_of n (wire_of p)) h.0 h.1,
    payload_spelled levels n p h.0 h.1 h.2,
    records_spelled levels rs h.3,
    append_assoc (key_bytes (key_of n (wire_of p))) (payload_bytes n p) (records_bytes rs),
  )

-- bytes of a part
AreBytes-front : (a b : List ℕ) → AreBytes (a ++ b) → AreBytes a
AreBytes-front [] b h = tt
AreBytes-front (x ∷ a) b h = (h.0, AreBytes-front a b h.1)

AreBytes-back : (a b : List ℕ) → AreBytes (a ++ b) → AreBytes b
AreBytes-back [] b h = h
AreBytes-back (x ∷ a) b h = AreBytes-back a b h.1

byte_at : (bytes : List ℕ) (i : ℕ) → AreBytes bytes → get_or bytes i 0 < 256
byte_at [] i h = omega arith
byte_at (b ∷ bs) zero h = h.0
byte_at (b ∷ bs) (suc i) h = byte_at bs i h.1

fits32 : (bytes : List ℕ) → AreBytes bytes → from_le_bytes w32 bytes < 2 ^ 32
fits32 bytes h = omega (arith, byte_at bytes 0 h, byte_at bytes 1 h, byte_at bytes 2 h, byte_at bytes 3 h)

fits64 : (bytes : List ℕ) → AreBytes bytes → from_le_bytes w64 bytes < 2 ^ 64
fits64 bytes h = omega (arith, byte_at bytes 0 h, byte_at bytes 1 h, byte_at bytes 2 h, byte_at bytes 3 h, byte_at bytes 4 h, byte_at bytes 5 h, byte_at bytes 6 h, byte_at bytes 7 h)

mutual
  payload_fits : (levels n : ℕ) (bytes : List ℕ) (p : Payload) → AreBytes bytes → SpellsPayload levels n bytes p → FitsPayload levels p
  payload_fits levels n bytes (varint v) b h = h.fits
  payload_fits levels n bytes (fixed64 v) b h = subst (λ v. v < 2 ^ 64) (sym h.1) (fits64 bytes b)
  payload_fits levels n bytes (delimited p) b h = h.1.fits
  payload_fits levels n bytes (group rs) b h =
      (h.0, records_fit (levels - 1) h.1.0 rs (AreBytes-front h.1.0 h.1.1 (subst AreBytes h.1.4 b)) h.1.2)
  payload_fits levels n bytes (fixed32 v) b h = subst (λ v. v < 2 ^ 32) (sym h.1) (fits32 bytes b)

  pub records_fit : (levels : ℕ) (bytes : List ℕ) (rs : Records) → AreBytes bytes → SpellsRecords levels bytes rs → FitsRecords levels rs
  records_fit levels bytes no_records b h = tt
  records_fit levels bytes (more_records n p rs) b h =
      let behind = AreBytes-back h.0 (h.1 ++ h.2) (subst AreBytes h.6 b) in
      (h.3.some, h.3.small, payload_fits levels n h.1 p (AreBytes-front h.1 h.2 behind) h.4, records_fit levels h.2 rs (AreBytes-back h.1 h.2 behind) h.5)

pub one_list : (levels : ℕ) (bytes : List ℕ) (rs ts : Records) → SpellsRecords levels bytes rs → SpellsRecords levels bytes ts → rs ≡ ts
one_list levels bytes rs ts h k =
    let end = key_bytes (key_of 1 EndGroup) in
    let spelled = key_spelled (key_of 1 EndGroup) (omega arith) (omega arith) in
    (one_group levels 1 bytes end bytes end [] [] rs ts h spelled k spelled refl).1
