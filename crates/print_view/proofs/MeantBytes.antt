-- What a message holds that records mean is bytes, where the records and the defaults of maps' entries hold bytes.
use Rattle.std.proofs.Common.{◌≡◌, ℕ, zero, suc, Bool, true, false, cond, not, ◌||◌, List, [], ◌∷◌, ◌++◌, map, Option, Some, None, refl}
use Rattle.std.specs.List.{AllByRecursion, flat_map}
use Rattle.reflect_wire.specs.Records.{Payload, varint, fixed64, delimited, group, fixed32}
use Rattle.protobuf_model.specs.Values.{Single, Content, single, message, list, dictionary, Contents, no_contents, more_contents, Entries, no_entries, more_entries, Held, content, Message, absent, nothing, list_of, chain_of, pairs_of, entries_of}
use Rattle.protobuf_model.specs.Types.{Name, Scalar, Kind, scalar, nested, Part, Key, Label, one, many, keyed, Field, Types, rival}
use Rattle.protobuf_model.specs.Types as kinds
use Rattle.protobuf_model.specs.Scalars.{meant, packs, wire_type, same}
use Rattle.protobuf_model.specs.Reader.{inside_of, row}
use Rattle.protobuf_model.specs.Keys.{put}
use Rattle.protobuf_model.specs.Meaning.{Merge, is_in, payloads, standing, left_of, settle, last_set, last_or, message_in, joined, taken, packed_or_one, elements, items, if_any, entry_value, entry, pairs, if_some, put_all, held_by, held, meaning_by, meaning}
use Rattle.protobuf_model.proofs.Arranged.{all_append, all_payloads, all_standing}
use Rattle.protobuf_model.proofs.Typing.{all_put}
use Rattle.text_laws.specs.SoundTypes.{HaveSmallDefaults}
use Rattle.text_model.specs.Plain.{AreBytes}
use Rattle.text_model.proofs.InBytes.{HasBytes, HaveBytes, EntriesHaveBytes, IsHeldInBytes, IsInBytes}
use Rattle.print_view.proofs.ReadBytes.{HoldsBytes, EachHoldsBytes, inside_of_small, row_small}

-- ---- single values

meant_bytes : (k : Scalar) (p : Payload) → HoldsBytes p → AllByRecursion AreBytes (meant k p)
meant_bytes kinds.int32 (varint n) h = (tt, tt)
meant_bytes kinds.int64 (varint n) h = (tt, tt)
meant_bytes kinds.uint32 (varint n) h = (tt, tt)
meant_bytes kinds.uint64 (varint n) h = (tt, tt)
meant_bytes kinds.sint32 (varint n) h = (tt, tt)
meant_bytes kinds.sint64 (varint n) h = (tt, tt)
meant_bytes kinds.bool (varint n) h = (tt, tt)
meant_bytes kinds.enumeration (varint n) h = (tt, tt)
meant_bytes kinds.fixed32 (fixed32 n) h = (tt, tt)
meant_bytes kinds.sfixed32 (fixed32 n) h = (tt, tt)
meant_bytes kinds.fixed64 (fixed64 n) h = (tt, tt)
meant_bytes kinds.sfixed64 (fixed64 n) h = (tt, tt)
meant_bytes kinds.string (delimited s) h = (tt, tt)
meant_bytes kinds.bytes (delimited s) h = (h, tt)
meant_bytes k p h = tt

all_meant : (k : Scalar) (ps : List Payload) → AllByRecursion HoldsBytes ps → AllByRecursion AreBytes (flat_map (meant k) ps)
all_meant k [] h = tt
all_meant k (p ∷ ps) h = all_append AreBytes (meant k p) (flat_map (meant k) ps) (meant_bytes k p h.0) (all_meant k ps h.1)

settled_bytes : (part : Part) (v : Single) → AreBytes v → IsHeldInBytes (settle part v)
settled_bytes part v h = by (part.presence || not (same v part.default)) where
  by : (b : Bool) → IsHeldInBytes (cond b (content (single v)) absent)
  by true = h
  by false = tt

set_bytes : (part : Part) (h : Held) (vs : List Single) → IsHeldInBytes h → AllByRecursion AreBytes vs → IsHeldInBytes (last_set part h vs)
set_bytes part h [] b a = b
set_bytes part h (v ∷ vs) b a = set_bytes part (settle part v) vs (settled_bytes part v a.0) a.1

last_bytes : (v : Single) (vs : List Single) → AreBytes v → AllByRecursion AreBytes vs → AreBytes (last_or v vs)
last_bytes v [] b a = b
last_bytes v (w ∷ vs) b a = last_bytes w vs a.0 a.1

packed_bytes : (k : Scalar) (p : Payload) → HoldsBytes p → AllByRecursion AreBytes (packed_or_one k p)
packed_bytes k (delimited body) h = by (packs k) where
  by : (b : Bool) → AllByRecursion AreBytes (cond b (flat_map (meant k) (row (wire_type k) body)) (meant k (delimited body)))
  by true = all_meant k (row (wire_type k) body) (row_small (wire_type k) body h)
  by false = meant_bytes k (delimited body) h
packed_bytes k (varint n) h = meant_bytes k (varint n) h
packed_bytes k (fixed64 n) h = meant_bytes k (fixed64 n) h
packed_bytes k (group rs) h = meant_bytes k (group rs) h
packed_bytes k (fixed32 n) h = meant_bytes k (fixed32 n) h

single_bytes : (vs : List Single) → AllByRecursion AreBytes vs → AllByRecursion HasBytes (map single vs)
single_bytes [] a = tt
single_bytes (v ∷ vs) a = (a.0, single_bytes vs a.1)

-- ---- lists and maps

items_bytes : (h : Held) → IsHeldInBytes h → AllByRecursion HasBytes (items h)
items_bytes (content (list cs)) b = by cs b where
  by : (cs : Contents) → HaveBytes cs → AllByRecursion HasBytes (list_of cs)
  by no_contents b = tt
  by (more_contents c cs) b = (b.0, by cs b.1)
items_bytes h b = tt

chain_bytes : (cs : List Content) → AllByRecursion HasBytes cs → HaveBytes (chain_of cs)
chain_bytes [] a = tt
chain_bytes (c ∷ cs) a = (a.0, chain_bytes cs a.1)

if_any_bytes : (cs : List Content) → AllByRecursion HasBytes cs → IsHeldInBytes (if_any cs)
if_any_bytes [] a = tt
if_any_bytes (c ∷ cs) a = chain_bytes (c ∷ cs) a

abbrev IsPairInBytes : Single × Content → Type 0
IsPairInBytes e = AreBytes e.0 × HasBytes e.1

pairs_bytes : (h : Held) → IsHeldInBytes h → AllByRecursion IsPairInBytes (pairs h)
pairs_bytes (content (dictionary es)) b = by es b where
  by : (es : Entries) → EntriesHaveBytes es → AllByRecursion IsPairInBytes (pairs_of es)
  by no_entries b = tt
  by (more_entries k c es) b = ((b.0, b.1), by es b.2)
pairs_bytes h b = tt

entries_bytes : (es : List (Single × Content)) → AllByRecursion IsPairInBytes es → EntriesHaveBytes (entries_of es)
entries_bytes [] a = tt
entries_bytes (e ∷ es) a = (a.0.0, a.0.1, entries_bytes es a.1)

if_some_bytes : (es : List (Single × Content)) → AllByRecursion IsPairInBytes es → IsHeldInBytes (if_some es)
if_some_bytes [] a = tt
if_some_bytes (e ∷ es) a = entries_bytes (e ∷ es) a

put_all_bytes : (es more : List (Single × Content)) → AllByRecursion IsPairInBytes es → AllByRecursion IsPairInBytes more → AllByRecursion IsPairInBytes (put_all es more)
put_all_bytes es [] a b = a
put_all_bytes es (e ∷ more) a b = put_all_bytes (put e.0 e.1 es) more (all_put IsPairInBytes e.0 e.1 es b.0 a) b.1

-- ---- messages

message_bytes : (h : Held) → IsHeldInBytes h → IsInBytes (message_in h)
message_bytes (content (message m)) b = b
message_bytes h b = λ n. tt

joined_bytes : (ps : List Payload) → AllByRecursion HoldsBytes ps → EachHoldsBytes (joined ps)
joined_bytes [] a = tt
joined_bytes (p ∷ ps) a = all_append (λ (r : ℕ × Payload). HoldsBytes r.1) (inside_of p) (joined ps) (inside_of_small p a.0) (joined_bytes ps a.1)

-- records leave bytes in a message that holds bytes
abbrev pub KeepsInBytes : Merge → Type 0
KeepsInBytes inner = (j : Name) (m : Message) (rs : List (ℕ × Payload)) → IsInBytes m → EachHoldsBytes rs → IsInBytes (inner j m rs)

module _ (inner : Merge) (keeps : KeepsInBytes inner) where
  taken_bytes : (part : Part) (k : Kind) (h : Held) (ps : List Payload) → IsHeldInBytes h → AllByRecursion HoldsBytes ps → IsHeldInBytes (taken inner part k h ps)
  taken_bytes part (scalar k) h ps b a = set_bytes part h (flat_map (meant k) ps) b (all_meant k ps a)
  taken_bytes part (nested frame j) h [] b a = b
  taken_bytes part (nested frame j) h (p ∷ ps) b a = keeps j (message_in h) (joined (p ∷ ps)) (message_bytes h b) (joined_bytes (p ∷ ps) a)

  elements_bytes : (k : Kind) (p : Payload) → HoldsBytes p → AllByRecursion HasBytes (elements inner k p)
  elements_bytes (scalar k) p a = single_bytes (packed_or_one k p) (packed_bytes k p a)
  elements_bytes (nested frame j) p a = (keeps j nothing (inside_of p) (λ n. tt) (inside_of_small p a), tt)

  all_elements : (k : Kind) (ps : List Payload) → AllByRecursion HoldsBytes ps → AllByRecursion HasBytes (flat_map (elements inner k) ps)
  all_elements k [] a = tt
  all_elements k (p ∷ ps) a = all_append HasBytes (elements inner k p) (flat_map (elements inner k) ps) (elements_bytes k p a.0) (all_elements k ps a.1)

  value_bytes : (part : Part) → AreBytes part.default → (k : Kind) (ps : List Payload) → AllByRecursion HoldsBytes ps → HasBytes (entry_value inner part k ps)
  value_bytes part d (scalar k) ps a = last_bytes part.default (flat_map (meant k) ps) d (all_meant k ps a)
  value_bytes part d (nested frame j) ps a = keeps j nothing (joined ps) (λ n. tt) (joined_bytes ps a)

  entry_bytes : (key : Key) (part : Part) → AreBytes key.default → AreBytes part.default → (p : Payload) → HoldsBytes p → IsPairInBytes (entry inner key part p)
  entry_bytes key part k d p a =
      let each = inside_of_small p a in
      let at = λ (n : ℕ). all_payloads (λ (r : ℕ × Payload). HoldsBytes r.1) n (inside_of p) each in (
        last_bytes key.default (flat_map (meant key.kind) (payloads 1 (inside_of p))) k (all_meant key.kind (payloads 1 (inside_of p)) (at 1)),
        value_bytes part d part.kind (payloads 2 (inside_of p)) (at 2),
      )

  all_entries : (key : Key) (part : Part) → AreBytes key.default → AreBytes part.default → (ps : List Payload) → AllByRecursion HoldsBytes ps → AllByRecursion IsPairInBytes (map (entry inner key part) ps)
  all_entries key part k d [] a = tt
  all_entries key part k d (p ∷ ps) a = (entry_bytes key part k d p a.0, all_entries key part k d ps a.1)

  field_bytes : (part : Part) (l : Label) → ((key : Key) → l ≡ keyed key → AreBytes key.default × AreBytes part.default) → (h : Held) (ps : List Payload) → IsHeldInBytes h → AllByRecursion HoldsBytes ps → IsHeldInBytes (held_by inner part l h ps)
  field_bytes part one small h ps b a = taken_bytes part part.kind h ps b a
  field_bytes part (many packed) small h ps b a =
      if_any_bytes (items h ++ flat_map (elements inner part.kind) ps) (all_append HasBytes (items h) (flat_map (elements inner part.kind) ps) (items_bytes h b) (all_elements part.kind ps a))
  field_bytes part (keyed key) small h ps b a =
      let d = small key refl in
      if_some_bytes (put_all (pairs h) (map (entry inner key part) ps)) (put_all_bytes (pairs h) (map (entry inner key part) ps) (pairs_bytes h b) (all_entries key part d.0 d.1 ps a))

  held_bytes : (types : Types) → HaveSmallDefaults types → (t : Name) (n : ℕ) (o : Option Field) → types t n ≡ o → (h : Held) (ps : List Payload) → IsHeldInBytes h → AllByRecursion HoldsBytes ps → IsHeldInBytes (held inner o h ps)
  held_bytes types small t n None e h ps b a = tt
  held_bytes types small t n (Some f) e h ps b a = field_bytes f.part f.label (λ key l. small t n f key e l) h ps b a

  left_bytes : (b : Bool) (h : Held) → IsHeldInBytes h → IsHeldInBytes (cond b absent h)
  left_bytes true h a = tt
  left_bytes false h a = a

  by_bytes : (types : Types) → HaveSmallDefaults types → KeepsInBytes (meaning_by inner types)
  by_bytes types small t m rs b a = λ n.
      held_bytes types small t n (types t n) refl (left_of (rival (types t) n) (m n) rs) (standing (rival (types t) n) n rs)
      (left_bytes (is_in (rival (types t) n) rs) (m n) (b n)) (all_standing (rival (types t) n) (λ (r : ℕ × Payload). HoldsBytes r.1) n rs a)

pub meaning_bytes : (levels : ℕ) (types : Types) → HaveSmallDefaults types → KeepsInBytes (meaning levels types)
meaning_bytes zero types small = by_bytes (λ u m rs. m) (λ j m rs b a. b) types small
meaning_bytes (suc levels) types small = by_bytes (meaning levels types) (meaning_bytes levels types small) types small
