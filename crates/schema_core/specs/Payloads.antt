-- What the calls answer that take payloads.
use Rattle.std.specs.Prelude.{◌≡◌, ℕ, List, Some, false}
use Rattle.reflect_tables.specs.Types.{PoolType}
use Rattle.reflect_pool.specs.FindsNames.{FindsMessage}
use Rattle.reflect_pool.specs.declared.message.MessageDescriptor.{MessageDescriptor}
use Rattle.reflect_message.specs.Bytes.{message_bytes}
use Rattle.reflect_message.specs.Oneofs.{IsExclusive}
use Rattle.reflect_decode.specs.Spelled.{IsSpelled}
use Rattle.reflect_message.specs.Names.{DynamicMessage}
use Rattle.text_lines.specs.Forms.{usual_form}
use Rattle.text_lines.specs.declared.options.FormatOptions.{FormatOptions}
use Rattle.reflect_print.specs.MessageTexts.{IsMessageText}
use Rattle.text_format.specs.Texts.{Makes}

-- the message type of the name
abbrev pub IsType : PoolType → List ℕ → MessageDescriptor → Type 0
IsType p name d = (d.pool.now ≡ p) × FindsMessage p name (Some d)

-- the bytes spell the message, which is of the named type
abbrev pub IsReadOfType : PoolType → List ℕ → List ℕ → DynamicMessage → Type 0
IsReadOfType p name bytes m = (d : MessageDescriptor) × IsType p name d × (m.descriptor ≡ d)
    × IsExclusive m × IsSpelled d bytes m

-- from text to bytes: the one form of the message of the named type that the fields of the text
-- make of one with nothing set
abbrev pub Encoded : PoolType → List ℕ → List ℕ → List ℕ → Type 0
Encoded p name text written = (d : MessageDescriptor) × IsType p name d
    × ((m : DynamicMessage) × Makes d text m × (written ≡ message_bytes m))

-- on one line without spaces, the fields that are set, by ascending number, and each
-- `google.protobuf.Any` by its own fields
abbrev pub compact_form : FormatOptions
compact_form = record usual_form { expand_any = false }

-- from bytes to text: the compact text of the message of the named type that the bytes spell
abbrev pub Decoded : PoolType → List ℕ → List ℕ → List ℕ → Type 0
Decoded p name bytes written = (m : DynamicMessage) × IsReadOfType p name bytes m
    × IsMessageText compact_form m written

-- from bytes to bytes: the one form of the message of the named type that the bytes spell
abbrev pub Recoded : PoolType → List ℕ → List ℕ → List ℕ → Type 0
Recoded p name bytes written = (m : DynamicMessage) × IsReadOfType p name bytes m
    × (written ≡ message_bytes m)
