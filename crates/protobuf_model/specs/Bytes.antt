-- The one list of records that a message is written as, and so its bytes.
use Rattle.std.specs.Prelude.{ℕ, zero, suc, ◌-◌, ◌^◌, cond, ◌||◌, ◌&&◌, not, Bool, false, List, [], ◌∷◌, ◌++◌, map, Option, None, Some}
use Rattle.std.specs.List.{flat_map}
use Rattle.reflect_wire.specs.Records.{Payload, delimited, group}
use Rattle.reflect_wire.specs.Views.{records_of}
use Rattle.reflect_wire.specs.Encoding.{payload_bytes, records_bytes}
use Rattle.protobuf_model.specs.Values.{Single, Content, single, message, list, dictionary, Contents, no_contents, more_contents, Entries, no_entries, more_entries, Held, content, records, Message}
use Rattle.protobuf_model.specs.Types.{Name, sized, tagged, Kind, scalar, nested, Part, Key, Label, one, many, keyed, Field, Types}
use Rattle.protobuf_model.specs.Scalars.{written_as, packs, same}

abbrev pub count_from : ℕ → ℕ → List ℕ
count_from n zero = []
count_from n (suc k) = n ∷ count_from (suc n) k

-- all numbers that fields may have, ascending
unfoldable pub field_numbers : List ℕ
field_numbers = count_from 1 (2 ^ 29 - 1)

-- the records of the numbers, of each those that `under` says
abbrev pub numbered : ℕ → List Payload → List (ℕ × Payload)
numbered n ps = map (λ p. (n, p)) ps

abbrev pub run : (ℕ → List Payload) → List ℕ → List (ℕ × Payload)
run under ns = flat_map (λ n. numbered n (under n)) ns

-- the number is that of a field, not of an extension
abbrev pub is_declared : Option Field → Bool
is_declared None = false
is_declared (Some f) = not f.extension

-- declared fields by ascending number, then extensions and numbers without a field by ascending
-- number
abbrev pub arranged : (ℕ → Option Field) → (ℕ → List Payload) → List (ℕ × Payload)
arranged type under =
    run (λ n. cond (is_declared (type n)) (under n) []) field_numbers
    ++ run (λ n. cond (is_declared (type n)) [] (under n)) field_numbers

-- a single value, and a message's records, as the payload of a kind: none where it is of another
abbrev pub in_kind : Kind → Single → List Payload
in_kind (scalar k) v = written_as k v
in_kind _ v = []

abbrev pub in_frame : Kind → List (ℕ × Payload) → List Payload
in_frame (nested sized u) rs = delimited (records_bytes (records_of rs)) ∷ []
in_frame (nested tagged u) rs = group (records_of rs) ∷ []
in_frame _ rs = []

-- values of the kind may stand one after another in one record
abbrev pub is_packable : Kind → Bool
is_packable (scalar k) = packs k
is_packable (nested frame u) = false

abbrev pub type_of : Kind → Name
type_of (nested frame u) = u
type_of (scalar k) = []

-- values without keys, one behind the other
abbrev pub bare : List Payload → List ℕ
bare ps = flat_map (payload_bytes 0) ps

-- a part of an entry is left out where it is a default without presence
abbrev pub unless_default : Bool → Single → Content → List Payload → List Payload
unless_default presence default (single v) ps = cond (presence || not (same v default)) ps []
unless_default presence default _ ps = ps

abbrev pub entry_records : Key → Part → Single → Content → List Payload → List (ℕ × Payload)
entry_records key part k c value =
    numbered 1 (unless_default key.presence key.default (single k) (written_as key.kind k))
    ++ numbered 2 (unless_default part.presence part.default c value)

abbrev mutual
  -- the payloads that a content is written as in a field
  pub payloads_in : Types → Part → Label → Content → List Payload
  payloads_in types part one (single v) = in_kind part.kind v
  payloads_in types part one (message m) =
      in_frame part.kind (arranged (types (type_of part.kind))
      (λ n. payloads_under types (types (type_of part.kind) n) (m n)))
  payloads_in types part (many packed) (list cs) =
      cond (packed && is_packable part.kind) (delimited (bare (each_payload types part cs)) ∷ [])
      (each_payload types part cs)
  payloads_in types part (keyed key) (dictionary es) = entry_payloads types key part es
  payloads_in types part _ _ = []

  -- and what stands under a number
  pub payloads_under : Types → Option Field → Held → List Payload
  payloads_under types o (records ps) = ps
  payloads_under types None (content c) = []
  payloads_under types (Some f) (content c) = payloads_in types f.part f.label c

  pub each_payload : Types → Part → Contents → List Payload
  each_payload types part no_contents = []
  each_payload types part (more_contents c cs) = payloads_in types part one c
      ++ each_payload types part cs

  pub entry_payloads : Types → Key → Part → Entries → List Payload
  entry_payloads types key part no_entries = []
  entry_payloads types key part (more_entries k c es) =
      delimited (records_bytes (records_of
      (entry_records key part k c (payloads_in types part one c))))
      ∷ entry_payloads types key part es

-- the records of a message of the type, and its bytes
abbrev pub written : Types → Name → Message → List (ℕ × Payload)
written types t m = arranged (types t) (λ n. payloads_under types (types t n) (m n))

abbrev pub bytes_of : Types → Name → Message → List ℕ
bytes_of types t m = records_bytes (records_of (written types t m))
