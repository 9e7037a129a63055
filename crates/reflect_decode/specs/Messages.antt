-- What records leave of messages that stand under numbers (protobuf.dev, "Encoding", Submessages,
-- Last One Wins).
use Rattle.std.specs.Prelude.{◌≡◌, ℕ, Bool, true, false, List, [], ◌∷◌, ◌++◌, Option, Some}
use Rattle.reflect_tables.specs.Types.{PoolType, KindType}
use Rattle.reflect_pool.specs.declared.kind.Kind.{Kind}
use Rattle.reflect_pool.specs.declared.kind.Kind.TheVariants as kinds
use Rattle.reflect_pool.specs.declared.message.MessageDescriptor.{MessageDescriptor}
use Rattle.reflect_wire.specs.Records.{Payload, delimited, group, SpellsRecords}
use Rattle.reflect_wire.specs.Views.{records_of}
use Rattle.reflect_message.specs.Contents.{Content, content_of, nothing}
use Rattle.reflect_message.specs.Names.{DynamicMessage, Value}
use Rattle.reflect_message.specs.Messages.{message_in, message_held, IsStart}

-- the records inside a payload of a message: where its field is a group those of a group, else
-- those that the bytes spell
abbrev pub IsInside : Bool → ℕ → Payload → List (ℕ × Payload) → Type 0
IsInside false levels (delimited body) rs = SpellsRecords levels body (records_of rs)
IsInside true levels (group inside) rs = inside ≡ records_of rs
IsInside _ levels _ rs = ⊥

-- the records inside payloads, one behind the other
abbrev pub AreInside : Bool → ℕ → List Payload → List (ℕ × Payload) → Type 0
AreInside grouped levels [] rs = rs ≡ []
AreInside grouped levels (p ∷ ps) rs =
    (here behind : List (ℕ × Payload)) × IsInside grouped levels p here
    × AreInside grouped levels ps behind × (rs ≡ here ++ behind)

-- the records of a map's entry, which its bytes spell
abbrev pub IsEntryBody : ℕ → Payload → List (ℕ × Payload) → Type 0
IsEntryBody levels (delimited body) rs = SpellsRecords levels body (records_of rs)
IsEntryBody levels _ rs = ⊥

-- what payloads leave in a message of a type, from what it held before to what it holds behind them
abbrev pub Taken : Type 1
Taken = MessageDescriptor → Content → Content → List Payload → Type 0

-- what those of a group field leave, and those of another; and which records are inside an entry of
-- a map, which stands at the level of the message that holds the map
pub record Takes : Type 1 where
  pub message : Bool → Taken
  pub entry : Payload → List (ℕ × Payload) → Type 0

-- the message has taken in the payloads, and is still of its type
abbrev pub MergesMessage : Taken → PoolType → KindType → Option Value → Option Value → List Payload
    → Type 0
MergesMessage taken pool t old new ps =
    (before after : DynamicMessage) × IsStart pool t old before × (message_held new ≡ Some after)
    × (after.descriptor ≡ before.descriptor)
    × taken before.descriptor (content_of before) (content_of after) ps

-- the value is a message of the kind's type that holds what the payload leaves in nothing
abbrev pub IsMade : Taken → Kind → Payload → Value → Type 0
IsMade taken (kinds.Message d) p v = (m : DynamicMessage) × (message_in v ≡ Some m)
    × (m.descriptor ≡ d) × taken d nothing (content_of m) (p ∷ [])
IsMade taken _ p v = ⊥
