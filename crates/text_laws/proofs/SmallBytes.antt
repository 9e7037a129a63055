-- The bytes of a message are below 256.
use Rattle.std.proofs.Common.{◌≡◌, ℕ, zero, suc, ◌+◌, ◌/◌, ◌%◌, ◌^◌, ◌<◌, ◌≤◌, ◌||◌, ◌&&◌, not, nat_lt, Bool, true, false, cond, List, [], ◌∷◌, ◌++◌, length, Option, None, Some, refl, sym, subst, arith}
use Rattle.std.specs.Prelude.{if◌then◌else◌}
use Rattle.std.specs.Int.{bytes_low_first, byte_at}
use Rattle.std.specs.List.{AllByRecursion}
use Rattle.std.proofs.lemmas.Bool.{ltb-true, ltb-false}
use Rattle.reflect_wire.specs.Records.{Payload, varint, fixed64, delimited, group, fixed32, key_of, wire_of}
use Rattle.reflect_wire.specs.declared.wire_key.WireType.TheVariants.{EndGroup}
use Rattle.reflect_wire.specs.Key.{key_code}
use Rattle.reflect_wire.specs.Views.{records_of}
use Rattle.reflect_wire.specs.Encoding.{varint_within, varint_bytes, key_bytes, payload_bytes, records_bytes}
use Rattle.protobuf_model.specs.Values.{Single, truth, int32, int64, uint32, uint64, text, blob, enumerated, Content, single, message, list, dictionary, Contents, no_contents, more_contents, Entries, no_entries, more_entries, Held, content, records, Message, list_of, pairs_of}
use Rattle.protobuf_model.specs.Types.{Name, Scalar, sized, tagged, Kind, scalar, nested, Part, Key, Label, one, many, keyed, Field, Types}
use Rattle.protobuf_model.specs.Types as kinds
use Rattle.protobuf_model.specs.Scalars.{same, written_as, Suits}
use Rattle.protobuf_model.specs.Typed.{IsOf, IsEntryOf, IsFieldOf, IsHeldOf, IsTypedBy, IsTyped}
use Rattle.protobuf_model.specs.Bytes.{numbered, is_packable, bare, unless_default, payloads_in, payloads_under, each_payload, entry_payloads, written, bytes_of}
use Rattle.protobuf_model.proofs.Arranged.{all_append, all_arranged}
use Rattle.text_model.specs.Plain.{AreBytes, IsPlainContent, ArePlainContents, ArePlainEntries, IsPlainHeld, IsPlain}
use Rattle.text_laws.proofs.Small.{AreSmall}
use Rattle.text_model.proofs.Utf8.{utf8_small}

-- ---- records

within_small : (more n : ℕ) → n ≤ more → AreSmall (varint_within more n)
within_small zero n h = (omega arith, tt)
within_small (suc more) n h = by (nat_lt n 128) refl (λ l. within_small more (n / 128) l) where
  by : (b : Bool) → nat_lt n 128 ≡ b → (n / 128 ≤ more → AreSmall (varint_within more (n / 128))) → AreSmall (varint_within (suc more) n)
  by true e later = let below = ltb-true n 128 e in subst (λ b. AreSmall (if b then n ∷ [] else (n % 128 + 128) ∷ varint_within more (n / 128))) (sym e) (omega arith, tt)
  by false e later =
      let above = ltb-false n 128 e in
      subst (λ b. AreSmall (if b then n ∷ [] else (n % 128 + 128) ∷ varint_within more (n / 128))) (sym e) (omega arith, later (omega arith))

varint_small : (n : ℕ) → AreSmall (varint_bytes n)
unfolding varint_bytes
varint_small n = within_small n n (omega arith)

low_byte : (n : ℕ) → n % 256 < 256
low_byte n = omega arith

byte_small : (i n : ℕ) → byte_at i n < 256
byte_small zero n = low_byte n
byte_small (suc i) n = low_byte (n / 256 ^ suc i)

fixed_small : (i k n : ℕ) → AreSmall (bytes_low_first i k n)
fixed_small i zero n = tt
fixed_small i (suc k) n = (byte_small i n, fixed_small (suc i) k n)

-- bytes in a payload are bytes
abbrev pub IsSmall : Payload → Type 0
IsSmall (varint n) = Unit {0}
IsSmall (fixed64 n) = Unit {0}
IsSmall (delimited s) = AreSmall s
IsSmall (group rs) = AreSmall (records_bytes rs)
IsSmall (fixed32 n) = Unit {0}

both_small : (a b : List ℕ) → AreSmall a → AreSmall b → AreSmall (a ++ b)
both_small a b h k = all_append (λ b. b < 256) a b h k

payload_small : (n : ℕ) (p : Payload) → IsSmall p → AreSmall (payload_bytes n p)
payload_small n (varint v) h = varint_small v
payload_small n (fixed64 v) h = fixed_small 0 8 v
payload_small n (delimited s) h = both_small (varint_bytes (length s)) s (varint_small (length s)) h
payload_small n (group rs) h = both_small (records_bytes rs) (key_bytes (key_of n EndGroup)) h (varint_small (key_code (key_of n EndGroup)))
payload_small n (fixed32 v) h = fixed_small 0 4 v

abbrev IsSmallRecord : ℕ × Payload → Type 0
IsSmallRecord r = IsSmall r.1

records_small : (rs : List (ℕ × Payload)) → AllByRecursion IsSmallRecord rs → AreSmall (records_bytes (records_of rs))
records_small [] h = tt
records_small (r ∷ rs) h =
    both_small (key_bytes (key_of r.0 (wire_of r.1)) ++ payload_bytes r.0 r.1) (records_bytes (records_of rs))
    (both_small (key_bytes (key_of r.0 (wire_of r.1))) (payload_bytes r.0 r.1) (varint_small (key_code (key_of r.0 (wire_of r.1)))) (payload_small r.0 r.1 h.0))
    (records_small rs h.1)

numbered_small : (n : ℕ) (ps : List Payload) → AllByRecursion IsSmall ps → AllByRecursion IsSmallRecord (numbered n ps)
numbered_small n [] h = tt
numbered_small n (p ∷ ps) h = (h.0, numbered_small n ps h.1)

bare_small : (ps : List Payload) → AllByRecursion IsSmall ps → AreSmall (bare ps)
bare_small [] h = tt
bare_small (p ∷ ps) h = both_small (payload_bytes 0 p) (bare ps) (payload_small 0 p h.0) (bare_small ps h.1)

-- ---- contents

single_small : (k : Scalar) (v : Single) → Suits k v → AreBytes v → AllByRecursion IsSmall (written_as k v)
single_small kinds.int32 (int32 z) h b = (tt, tt)
single_small kinds.int64 (int64 z) h b = (tt, tt)
single_small kinds.uint32 (uint32 n) h b = (tt, tt)
single_small kinds.uint64 (uint64 n) h b = (tt, tt)
single_small kinds.sint32 (int32 z) h b = (tt, tt)
single_small kinds.sint64 (int64 z) h b = (tt, tt)
single_small kinds.bool (truth t) h b = (tt, tt)
single_small kinds.enumeration (enumerated z) h b = (tt, tt)
single_small kinds.fixed32 (uint32 n) h b = (tt, tt)
single_small kinds.sfixed32 (int32 z) h b = (tt, tt)
single_small kinds.fixed64 (uint64 n) h b = (tt, tt)
single_small kinds.sfixed64 (int64 z) h b = (tt, tt)
single_small kinds.string (text s) h b = (utf8_small s h, tt)
single_small kinds.bytes (blob s) h b = (b, tt)
single_small k v h b = absurd h

unless_small : (presence : Bool) (default : Single) (c : Content) (ps : List Payload) → AllByRecursion IsSmall ps → AllByRecursion IsSmall (unless_default presence default c ps)
unless_small presence default (single v) ps h = by (presence || not (same v default)) where
  by : (b : Bool) → AllByRecursion IsSmall (cond b ps [])
  by true = h
  by false = tt
unless_small presence default (message m) ps h = h
unless_small presence default (list cs) ps h = h
unless_small presence default (dictionary es) ps h = h

module _ (types : Types) (inner : Name → Message → Type 0) (each : (u : Name) (m : Message) → inner u m → IsPlain types u m → AreSmall (bytes_of types u m)) where
  one_small : (k : Kind) (p : Bool) (d : Single) (c : Content) → IsOf inner k c → IsPlainContent types k c → AllByRecursion IsSmall (payloads_in types (record { kind = k; presence = p; default = d }) one c)
  one_small (scalar k) p d (single v) h b = single_small k v h b
  one_small (nested sized u) p d (message m) h b = (each u m h b, tt)
  one_small (nested tagged u) p d (message m) h b = (each u m h b, tt)
  one_small k p d c h b = absurd h

  each_small : (part : Part) (cs : Contents) → AllByRecursion (IsOf inner part.kind) (list_of cs) → ArePlainContents types part.kind cs → AllByRecursion IsSmall (each_payload types part cs)
  each_small part no_contents h b = tt
  each_small part (more_contents c cs) h b = all_append IsSmall (payloads_in types part one c) (each_payload types part cs) (one_small part.kind part.presence part.default c h.0 b.0) (each_small part cs h.1 b.1)

  entries_small : (key : Key) (part : Part) (es : Entries) → AllByRecursion (IsEntryOf inner key part) (pairs_of es) → ArePlainEntries types part.kind es → AllByRecursion IsSmall (entry_payloads types key part es)
  entries_small key part no_entries h b = tt
  entries_small key part (more_entries k c es) h b =
      let first = unless_default key.presence key.default (single k) (written_as key.kind k) in
      let second = unless_default part.presence part.default c (payloads_in types part one c) in (
        records_small (numbered 1 first ++ numbered 2 second)
            (all_append IsSmallRecord (numbered 1 first) (numbered 2 second)
            (numbered_small 1 first (unless_small key.presence key.default (single k) (written_as key.kind k) (single_small key.kind k h.0.0 b.0)))
            (numbered_small 2 second (unless_small part.presence part.default c (payloads_in types part one c) (one_small part.kind part.presence part.default c h.0.1 b.1)))),
        entries_small key part es h.1 b.2,
      )

  list_small : (part : Part) (packed : Bool) (cs : Contents) → AllByRecursion IsSmall (each_payload types part cs) → AllByRecursion IsSmall (payloads_in types part (many packed) (list cs))
  list_small part packed cs h = by (packed && is_packable part.kind) where
    by : (b : Bool) → AllByRecursion IsSmall (cond b (delimited (bare (each_payload types part cs)) ∷ []) (each_payload types part cs))
    by true = (bare_small (each_payload types part cs) h, tt)
    by false = h

  field_small : (part : Part) (l : Label) (c : Content) → IsFieldOf inner part l c → IsPlainContent types part.kind c → AllByRecursion IsSmall (payloads_in types part l c)
  field_small part one c h b = one_small part.kind part.presence part.default c h.0 b
  field_small part (many packed) (list (more_contents c cs)) h b = list_small part packed (more_contents c cs) (each_small part (more_contents c cs) h b)
  field_small part (keyed key) (dictionary (more_entries k c es)) h b = entries_small key part (more_entries k c es) h.0 b
  field_small part l c h b = absurd h

  held_small : (levels : ℕ) (o : Option Field) (h : Held) → IsHeldOf inner levels o h → IsPlainHeld types o h → AllByRecursion IsSmall (payloads_under types o h)
  held_small levels None (records ps) h b = subst (AllByRecursion IsSmall) (sym b) tt
  held_small levels (Some f) (records ps) h b = subst (AllByRecursion IsSmall) (sym b) tt
  held_small levels None (content c) h b = absurd h
  held_small levels (Some f) (content c) h b = field_small f.part f.label c h b

  message_small : (levels : ℕ) (t : Name) (m : Message) → IsTypedBy inner levels (types t) m → IsPlain types t m → AreSmall (bytes_of types t m)
  message_small levels t m h b =
      records_small (written types t m) (all_arranged IsSmallRecord (types t) (λ n. payloads_under types (types t n) (m n)) (λ n. numbered_small n (payloads_under types (types t n) (m n)) (held_small levels (types t n) (m n) (h.contents n) (b n))))

pub bytes_small : (levels : ℕ) (types : Types) (t : Name) (m : Message) → IsTyped levels types t m → IsPlain types t m → AreSmall (bytes_of types t m)
bytes_small zero types t m h b = message_small types (λ u m. ⊥) (λ u m h b. absurd h) zero t m h b
bytes_small (suc levels) types t m h b = message_small types (IsTyped levels types) (bytes_small levels types) (suc levels) t m h b
