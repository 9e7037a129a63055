-- Records in which no list is a member of a oneof, as sources give them (protobuf.dev, "Protocol
-- Buffers Language Specification": Oneof and Oneof Field, Map Field).
use Rattle.std.specs.Prelude.{◌≡◌, None, Some}
use Rattle.std.specs.List.{AllByRecursion}
use Rattle.descriptor_records.specs.Content.{FieldContent, MessageContent, message, MessageContents, no_messages, more_messages, messages_of, FileContent}
use Rattle.descriptor_records.specs.FieldNumbers.{label_number}
use Rattle.descriptor_records.specs.declared.field.Label.TheVariants as labels

-- the field is in no oneof if it is repeated
abbrev pub IsLoneList : FieldContent → Type 0
IsLoneList f = f.label ≡ Some (label_number labels.Repeated) → f.oneof_index ≡ None

-- so each field of a message, and of those in it
abbrev mutual
  pub HasLoneLists : MessageContent → Type 0
  HasLoneLists (message name fields extensions nested enums ranges oneofs options reserved names) =
      AllByRecursion IsLoneList fields × HaveLoneLists nested

  pub HaveLoneLists : MessageContents → Type 0
  HaveLoneLists no_messages = Unit {0}
  HaveLoneLists (more_messages m ms) = HasLoneLists m × HaveLoneLists ms

-- and of all messages of a file
abbrev pub GivesLoneLists : FileContent → Type 0
GivesLoneLists f = HaveLoneLists (messages_of f.message_type)
