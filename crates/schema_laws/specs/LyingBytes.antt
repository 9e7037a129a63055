-- Bytes that lie in other bytes, as messages in fields of messages do (protobuf.dev, "Encoding").
use Rattle.std.specs.Prelude.{◌≡◌, ℕ, List, [], ◌∷◌}
use Rattle.print_parts.specs.Pairwise.{Pairwise}
use Rattle.protobuf_model.specs.Meaning.{payloads}
use Rattle.reflect_wire.specs.Encoding.{records_bytes}
use Rattle.reflect_wire.specs.Records.{Payload, delimited, group}
use Rattle.reflect_wire.specs.Views.{records_of}

-- the payload is that of a message in these bytes: they stand behind their length, or are those of
-- the records of a group
abbrev pub HoldsBytes : Payload → List ℕ → Type 0
HoldsBytes (delimited body) bytes = body ≡ bytes
HoldsBytes (group rs) bytes = records_bytes rs ≡ bytes
HoldsBytes p bytes = ⊥

-- the first bytes are those of records, of which one alone has the first number; what that holds
-- are the last bytes, or they lie in it along the numbers behind
abbrev pub LieAlong : List ℕ → (bytes inner : List ℕ) → Type 0
LieAlong [] bytes inner = bytes ≡ inner
LieAlong (n ∷ ns) bytes inner =
    (rs : List (ℕ × Payload)) × (p : Payload) × (next : List ℕ)
    × (bytes ≡ records_bytes (records_of rs)) × (payloads n rs ≡ p ∷ [])
    × HoldsBytes p next × LieAlong ns next inner

-- bytes lie so in the first ones that are those of a list's messages: there are as many records of
-- the last number, and each of them, in their order, holds the next of them
abbrev pub AllLieAlong : List ℕ → (bytes : List ℕ) → (inners : List (List ℕ)) → Type 0
AllLieAlong [] bytes inners = ⊥
AllLieAlong (n ∷ []) bytes inners =
    (rs : List (ℕ × Payload)) × (bytes ≡ records_bytes (records_of rs))
    × Pairwise HoldsBytes (payloads n rs) inners
AllLieAlong (n ∷ q ∷ ns) bytes inners =
    (next : List ℕ) × LieAlong (n ∷ []) bytes next × AllLieAlong (q ∷ ns) next inners
