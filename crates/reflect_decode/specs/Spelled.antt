-- What wire bytes leave in a message.
use Rattle.std.specs.Prelude.{ℕ, List, [], None}
use Rattle.reflect_pool.specs.declared.message.MessageDescriptor.{MessageDescriptor}
use Rattle.reflect_wire.specs.Faults.{TellsTrue}
use Rattle.reflect_wire.specs.Records.{Payload, SpellsRecords}
use Rattle.reflect_wire.specs.declared.wire_error.WireError.{WireError}
use Rattle.reflect_wire.specs.Views.{records_of}
use Rattle.reflect_decode.specs.Accepts.{Accepts}
use Rattle.reflect_decode.specs.Fields.{HoldFields, HoldExtensions}
use Rattle.reflect_message.specs.Contents.{Content, content_of}
use Rattle.reflect_copies.specs.Copies.{IsCopy}
use Rattle.reflect_message.specs.Declares.{NoField}
use Rattle.reflect_message.specs.Held.{fields_of, extensions_of, unknown_of}
use Rattle.reflect_decode.specs.Keeps.{KeepsUndeclared}
use Rattle.reflect_decode.specs.Levels.{MergesAt, TakesAt}
use Rattle.reflect_decode.specs.Ordered.{HoldsInOrder, IsOrdered}
use Rattle.reflect_decode.specs.Refused.{BodyFault}
use Rattle.reflect_decode.specs.Spares.{HoldsRead, NoExtension}
use Rattle.reflect_decode.specs.Suits.{Suits}
use Rattle.reflect_message.specs.Names.{DynamicMessage}

-- the bytes spell records, at most 100 levels deep, that the type accepts, and the message holds
-- exactly what these leave in one of the type, by ascending numbers
abbrev pub IsSpelled : MessageDescriptor → List ℕ → DynamicMessage → Type 0
IsSpelled d bytes m =
    (rs : List (ℕ × Payload)) × SpellsRecords 100 bytes (records_of rs)
    × KeepsUndeclared d [] (unknown_of m) rs
    × HoldsRead (NoField d) (fields_of m) rs × HoldsRead (NoExtension d) (extensions_of m) rs
    × HoldFields (TakesAt 100) d (fields_of m) rs
    × HoldExtensions (TakesAt 100) d (extensions_of m) rs
    × Accepts 100 d rs × IsOrdered (content_of m)

-- the bytes spell such records, and the new message holds exactly what these leave in a copy of the
-- old one that is in order at each depth; where what the old one holds suits the type, the type
-- accepts each of them
abbrev pub IsMerged : MessageDescriptor → List ℕ → DynamicMessage → DynamicMessage → Type 0
IsMerged d bytes old new =
    (rs : List (ℕ × Payload)) × (copy : Content) × SpellsRecords 100 bytes (records_of rs)
    × IsCopy (content_of old) copy × HoldsInOrder copy × MergesAt 100 d copy (content_of new) rs
    × (Suits 100 d (content_of old) → Accepts 100 d rs)

-- why bytes are refused as a message of the type
abbrev pub TellsWhy : MessageDescriptor → List ℕ → WireError → Type 0
TellsWhy d bytes e = TellsTrue (BodyFault 100 d.pool.now d.index None) bytes e
