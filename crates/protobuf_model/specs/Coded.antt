-- Bytes and the messages that they mean.
use Rattle.std.specs.Prelude.{◌≡◌, ℕ, ◌<◌, ◌^◌, List, [], ◌∷◌, length}
use Rattle.std.specs.List.{AllByRecursion}
use Rattle.reflect_wire.specs.Records.{Payload, SpellsRecords}
use Rattle.reflect_wire.specs.Views.{records_of}
use Rattle.protobuf_model.specs.Values.{Message, nothing}
use Rattle.protobuf_model.specs.Types.{Name, Types}
use Rattle.protobuf_model.specs.Accepts.{Accepts}
use Rattle.protobuf_model.specs.Meaning.{meaning}
use Rattle.protobuf_model.specs.Typed.{IsTyped}
use Rattle.protobuf_model.specs.Bytes.{bytes_of}
use Rattle.protobuf_model.specs.Older.{IsOlder}

-- the bytes spell these records, and the type accepts them, of at most 100 levels
pub record AreRead (types : Types) (t : Name) (bytes : List ℕ)
    (rs : List (ℕ × Payload)) : Type 0 where
  pub spelled : SpellsRecords 100 bytes (records_of rs)
  pub accepted : Accepts 100 types t rs

abbrev pub IsAccepted : Types → Name → List ℕ → Type 0
IsAccepted types t bytes = (rs : List (ℕ × Payload)) × AreRead types t bytes rs

-- the bytes are accepted, and behind the start their records mean the message
abbrev pub AreMerged : Types → Name → Message → List ℕ → Message → Type 0
AreMerged types t start bytes m =
    (rs : List (ℕ × Payload)) × AreRead types t bytes rs × (meaning 100 types t start rs ≡ m)

abbrev pub Mean : Types → Name → List ℕ → Message → Type 0
Mean types t bytes m = AreMerged types t nothing bytes m

-- a message that suits its type, of at most 100 levels
abbrev pub SuitsType : Types → Name → Message → Type 0
SuitsType types t m = IsTyped 100 types t m

-- bytes as the type writes again what they mean
abbrev pub IsRecoded : Types → Name → List ℕ → List ℕ → Type 0
IsRecoded types t bytes out = (m : Message) × Mean types t bytes m × (bytes_of types t m ≡ out)

-- bytes recoded by one type after the other, each time in no more bytes than a length can say
abbrev pub IsRecodedThrough : List (Types × Name) → List ℕ → List ℕ → Type 0
IsRecodedThrough [] bytes out = bytes ≡ out
IsRecodedThrough (t ∷ ts) bytes out =
    (next : List ℕ) × IsRecoded t.0 t.1 bytes next × (length next < 2 ^ 64)
    × IsRecodedThrough ts next out

-- each of the types is older than this one
abbrev pub AreOlderThan : Types → Name → List (Types × Name) → Type 0
AreOlderThan new u ts = AllByRecursion (λ t. IsOlder t.0 t.1 new u) ts
