-- What records leave in a message, by how many levels of messages and groups may lie below it.
use Rattle.std.specs.Prelude.{ℕ, zero, suc, Bool, List}
use Rattle.reflect_pool.specs.declared.message.MessageDescriptor.{MessageDescriptor}
use Rattle.reflect_wire.specs.Records.{Payload}
use Rattle.reflect_message.specs.Contents.{Content}
use Rattle.reflect_decode.specs.Messages.{Taken, Takes, AreInside, IsEntryBody}
use Rattle.reflect_decode.specs.Spares.{Merges}

-- payloads of messages leave what the records inside them do, taken one behind the other; below the
-- last level there are none
unfoldable pub TakenAt : ℕ → Bool → Taken
TakenAt zero grouped m old new ps = ⊥
TakenAt (suc levels) grouped m old new ps =
    (rs : List (ℕ × Payload)) × AreInside grouped levels ps rs
    × Merges (record { message = TakenAt levels; entry = IsEntryBody levels }) m old new rs

-- the levels that are left are one fewer inside a message, and as many inside an entry of a map
abbrev pub TakesAt : ℕ → Takes
TakesAt levels = record { message = TakenAt levels; entry = IsEntryBody levels }

-- the records are taken in, and with them those of the messages below
abbrev pub MergesAt : ℕ → MessageDescriptor → Content → Content → List (ℕ × Payload) → Type 0
MergesAt levels = Merges (TakesAt levels)
