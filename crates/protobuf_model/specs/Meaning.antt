-- What a list of records means, with what stands before it (protobuf.dev, "Encoding", Last One
-- Wins, Oneofs, Maps).
use Rattle.std.specs.Prelude.{ℕ, zero, suc, Bool, false, cond, not, ◌||◌, ◌&&◌, ◌==◌, List, [], ◌∷◌, ◌++◌, map, Option, None, Some}
use Rattle.std.specs.List.{flat_map}
use Rattle.reflect_wire.specs.Records.{Payload, delimited}
use Rattle.protobuf_model.specs.Values.{Single, Content, single, message, list, dictionary, Held, content, records, Message, absent, nothing, list_of, chain_of, pairs_of, entries_of}
use Rattle.protobuf_model.specs.Types.{Name, Scalar, Kind, scalar, nested, Part, Key, Label, one, many, keyed, Field, Types, rival}
use Rattle.protobuf_model.specs.Scalars.{meant, packs, wire_type, same}
use Rattle.protobuf_model.specs.Keys.{put}
use Rattle.protobuf_model.specs.Reader.{inside_of, row}

-- what records leave in a message of a type that holds something before
abbrev pub Merge : Type 0
Merge = Name → Message → List (ℕ × Payload) → Message

-- a record of a number that passes the test is among them
abbrev pub is_in : (ℕ → Bool) → List (ℕ × Payload) → Bool
is_in test [] = false
is_in test (r ∷ rs) = test r.0 || is_in test rs

-- the payloads of a number
abbrev pub payloads : ℕ → List (ℕ × Payload) → List Payload
payloads n [] = []
payloads n (r ∷ rs) = cond (r.0 == n) (r.1 ∷ payloads n rs) (payloads n rs)

-- those that stand: a record of a oneof's member is struck out where one of another member follows
-- it
abbrev pub standing : (ℕ → Bool) → ℕ → List (ℕ × Payload) → List Payload
standing rivals n [] = []
standing rivals n (r ∷ rs) = cond (r.0 == n && not (is_in rivals rs)) (r.1 ∷ standing rivals n rs)
    (standing rivals n rs)

-- what stood before is struck out likewise
abbrev pub left_of : (ℕ → Bool) → Held → List (ℕ × Payload) → Held
left_of rivals h rs = cond (is_in rivals rs) absent h

-- a value that is set, unless it is a default without presence
abbrev pub settle : Part → Single → Held
settle part v = cond (part.presence || not (same v part.default)) (content (single v)) absent

-- the last value, or what stood before
abbrev pub last_set : Part → Held → List Single → Held
last_set part h [] = h
last_set part h (v ∷ vs) = last_set part (settle part v) vs

-- the last value, or the one that stands where there is none
abbrev pub last_or : Single → List Single → Single
last_or v [] = v
last_or v (w ∷ vs) = last_or w vs

-- the message that is held; where none is, nothing is set in it
abbrev pub message_in : Held → Message
message_in (content (message m)) = m
message_in _ = nothing

-- the records inside all of them, one behind the other
abbrev pub joined : List Payload → List (ℕ × Payload)
joined ps = flat_map inside_of ps

-- what records of a single value leave, where `inner` says what those inside a message do
abbrev pub taken : Merge → Part → Kind → Held → List Payload → Held
taken inner part (scalar k) h ps = last_set part h (flat_map (meant k) ps)
taken inner part (nested frame u) h [] = h
taken inner part (nested frame u) h (p ∷ ps) =
    content (message (inner u (message_in h) (joined (p ∷ ps))))

-- the values of a packable kind in one record, packed or not
abbrev pub packed_or_one : Scalar → Payload → List Single
packed_or_one k (delimited body) =
    cond (packs k) (flat_map (meant k) (row (wire_type k) body)) (meant k (delimited body))
packed_or_one k p = meant k p

-- the elements of a list in one record
abbrev pub elements : Merge → Kind → Payload → List Content
elements inner (scalar k) p = map single (packed_or_one k p)
elements inner (nested frame u) p = message (inner u nothing (inside_of p)) ∷ []

-- the elements of a list, and the list of elements: none is no list
abbrev pub items : Held → List Content
items (content (list cs)) = list_of cs
items _ = []

abbrev pub if_any : List Content → Held
if_any [] = absent
if_any (c ∷ cs) = content (list (chain_of (c ∷ cs)))

-- a map's entry in one record: a message of the key under 1 and the value under 2, each its default
-- where it is missing
abbrev pub entry_value : Merge → Part → Kind → List Payload → Content
entry_value inner part (scalar k) ps = single (last_or part.default (flat_map (meant k) ps))
entry_value inner part (nested frame u) ps = message (inner u nothing (joined ps))

-- the key and the value
abbrev pub entry : Merge → Key → Part → Payload → Single × Content
entry inner key part p = (
  last_or key.default (flat_map (meant key.kind) (payloads 1 (inside_of p))),
  entry_value inner part part.kind (payloads 2 (inside_of p)),
)

-- the same of a map
abbrev pub pairs : Held → List (Single × Content)
pairs (content (dictionary es)) = pairs_of es
pairs _ = []

abbrev pub if_some : List (Single × Content) → Held
if_some [] = absent
if_some (e ∷ es) = content (dictionary (entries_of (e ∷ es)))

-- each entry over the one of an equal key
abbrev pub put_all : List (Single × Content) → List (Single × Content) → List (Single × Content)
put_all es [] = es
put_all es (e ∷ more) = put_all (put e.0 e.1 es) more

-- what records of a field leave, by its label
abbrev pub held_by : Merge → Part → Label → Held → List Payload → Held
held_by inner part one h ps = taken inner part part.kind h ps
held_by inner part (many packed) h ps = if_any (items h ++ flat_map (elements inner part.kind) ps)
held_by inner part (keyed key) h ps = if_some (put_all (pairs h) (map (entry inner key part) ps))

-- the records that are kept
abbrev pub kept : Held → List Payload
kept (records ps) = ps
kept (content c) = []

-- what stands under a number behind its records, which are kept where no field has it
abbrev pub held : Merge → Option Field → Held → List Payload → Held
held inner None h ps = records (kept h ++ ps)
held inner (Some f) h ps = held_by inner f.part f.label h ps

-- each number for itself
abbrev pub meaning_by : Merge → Types → Merge
meaning_by inner types t start rs =
    λ n. held inner (types t n) (left_of (rival (types t) n) (start n) rs)
    (standing (rival (types t) n) n rs)

-- what records mean behind a start, of at most so many levels
abbrev pub meaning : ℕ → Types → Merge
meaning zero types = meaning_by (λ u m rs. m) types
meaning (suc levels) types = meaning_by (meaning levels types) types
