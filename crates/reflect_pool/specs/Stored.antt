-- What is stored of messages beside what their types tell: ranges of numbers, and which of them say
-- that they are the types of maps' entries.
use Rattle.std.specs.Prelude.{◌≡◌, List, [], ◌∷◌, map, IsPermutation, is_some}
use Rattle.std.specs.List.{AllByRecursion, AllZip, flat_map}
use Rattle.descriptor_records.specs.declared.file.FileDescriptorProto.{FileDescriptorProto}
use Rattle.reflect_known.specs.KnownNames.{nothing_before}
use Rattle.reflect_tables.specs.Ranges.{Range, reserved_range, extension_range}
use Rattle.reflect_tables.specs.Views.{ranges_of}
use Rattle.reflect_tables.specs.declared.stored.StoredMessage.{StoredMessage}
use Rattle.reflect_declarations.specs.Batches.{batch_declarations}
use Rattle.reflect_declarations.specs.Declarations.{Declaration, of_message}
use Rattle.reflect_declarations.specs.Tree.{MessageParts}

-- the numbers that a message reserves, and those that it keeps for extensions
pub record MessageRanges : Type 0 where
  pub reserved : List Range
  pub extensions : List Range

abbrev pub declared_ranges : MessageParts → MessageRanges
declared_ranges m = record {
  reserved = map reserved_range m.reserved_range;
  extensions = map extension_range m.extension_range;
}

-- those of what is declared, if it is a message
abbrev pub ranges_in : Declaration → List MessageRanges
ranges_in d = elim d.body [ of_message m ↦ declared_ranges m ∷ [] | _ ↦ [] ]

-- they are stored with a message, each list in some order
pub record HasRanges (r : MessageRanges) (m : StoredMessage) : Type 0 where
  pub reserved : IsPermutation r.reserved (ranges_of m.reserved_numbers)
  pub extensions : IsPermutation r.extensions (ranges_of m.extension_numbers)

-- a message says that it is the type of a map's entries exactly where it has the parts of one
abbrev pub SaysEntry : StoredMessage → Type 0
SaysEntry m = m.is_entry ≡ is_some m.entry

-- stored messages have the ranges that the records of files declare, and say that they are entries
-- exactly where they have the parts
pub record AreStored (records : List FileDescriptorProto)
    (messages : List StoredMessage) : Type 0 where
  pub ranges : AllZip HasRanges (flat_map ranges_in (batch_declarations nothing_before 0 records))
      messages
  pub entries : AllByRecursion SaysEntry messages
