-- What messages are in the words of the model: one function from numbers to what stands under them.
use Rattle.std.specs.Prelude.{ℕ, List, map, Bool, true, false, cond, ◌||◌, not, Option, None, Some, string_bytes}
use Rattle.reflect_tables.specs.Types.{PoolType, FieldType}
use Rattle.reflect_wire.specs.Records.{Payload}
use Rattle.reflect_entries.specs.Entries.{value_at}
use Rattle.reflect_entries.specs.Pairs.{on_value}
use Rattle.reflect_entries.specs.Undeclared.{undeclared}
use Rattle.reflect_scalar.specs.Keys.{key_view}
use Rattle.reflect_message.specs.Contents as contents
use Rattle.reflect_message.specs.Known.{known_field, known_extension}
use Rattle.reflect_message.specs.Names.{DynamicMessage, Value}
use Rattle.reflect_message.specs.Names as parts
use Rattle.reflect_message.specs.declared.parts.HeldOf.TheFolds.{fold-HeldOf, fold-ValueOf}
use Rattle.reflect_message.specs.declared.parts.HeldOf.TheOpen.{HeldOf-F, PartsOf-F, ValueOf-F, MessageOf-F}
use Rattle.protobuf_model.specs.Values.{truth, int32, int64, uint32, uint64, text, blob, enumerated, Content, single, message, list, dictionary, no_contents, more_contents, no_entries, more_entries, Held, content, records, Message, absent, chain_of, entries_of}
use Rattle.protobuf_model.specs.Scalars.{same}
use Rattle.protobuf_model.specs.Meaning.{payloads}
use Rattle.message_view.specs.Singles.{single_view}
use Rattle.message_view.specs.Types.{default_of}
use Rattle.reflect_pool.specs.declared.message.MessageDescriptor.{MessageDescriptor}

-- a default is set only with presence, and an empty list or an empty map never
abbrev pub is_set : PoolType → FieldType → Content → Bool
is_set pool f (single v) = f.presence || not (same v (default_of pool f))
is_set pool f (message m) = true
is_set pool f (list no_contents) = false
is_set pool f (list (more_contents c cs)) = true
is_set pool f (dictionary no_entries) = false
is_set pool f (dictionary (more_entries k c es)) = true

-- what a field holds
abbrev pub held_in : PoolType → FieldType → Option Content → Held
held_in pool f None = absent
held_in pool f (Some c) = cond (is_set pool f c) (content c) absent

-- what stands under a number: what its field holds, or else its extension, or else its records
abbrev pub held_either : PoolType → (f x : Option FieldType) → (field extension : Option Content)
    → List Payload → Held
held_either pool (Some f) x field extension ps = held_in pool f field
held_either pool None (Some x) field extension ps = held_in pool x extension
held_either pool None None field extension ps = records ps

-- the fields, the extensions and the records of a message of the type at a place
abbrev pub held_under : PoolType → ℕ → (fields extensions : List (ℕ × Content))
    → List (ℕ × Payload) → Message
held_under pool i fields extensions unknown n =
    held_either pool (known_field pool i n) (known_extension pool i n)
    (value_at fields n) (value_at extensions n) (payloads n unknown)

-- what a message holds, as the type at a place has it
abbrev pub Placed : Type 0
Placed = PoolType → ℕ → Message

-- one level of a value, of a message, of what it holds and of its parts
abbrev pub value_step : ValueOf-F MessageDescriptor Placed Content Message Placed → Content
value_step (ValueOf-F.Bool b) = single (truth b)
value_step (ValueOf-F.I32 z) = single (int32 z)
value_step (ValueOf-F.I64 z) = single (int64 z)
value_step (ValueOf-F.U32 n) = single (uint32 n)
value_step (ValueOf-F.U64 n) = single (uint64 n)
value_step (ValueOf-F.String t) = single (text (string_bytes t))
value_step (ValueOf-F.Bytes b) = single (blob b.items)
value_step (ValueOf-F.EnumNumber z) = single (enumerated z)
value_step (ValueOf-F.Message m) = message m
value_step (ValueOf-F.List vs) = list (chain_of vs.items)
value_step (ValueOf-F.Map es) =
    dictionary (entries_of (map (λ e. (single_view (key_view e.0), e.1)) es.entries))

abbrev pub message_step : MessageOf-F MessageDescriptor Placed Content Message Placed → Message
message_step m = m.held m.descriptor.pool.now m.descriptor.index

abbrev pub held_step : HeldOf-F MessageDescriptor Placed Content Message Placed → Placed
held_step HeldOf-F.Nothing = λ pool i n. absent
held_step (HeldOf-F.Block b) = b.value

abbrev pub parts_step : PartsOf-F MessageDescriptor Placed Content Message Placed → Placed
parts_step p = λ pool i. held_under pool i p.fields p.extensions (undeclared p.unknown)

-- a value, at each depth
abbrev pub content_view : Value → Content
content_view =
    fold-ValueOf MessageDescriptor Placed Content Message Placed held_step value_step message_step
    parts_step

-- what a message holds, by the place of its type
abbrev pub held_view : parts.Held → Placed
held_view =
    fold-HeldOf MessageDescriptor Placed Content Message Placed held_step value_step message_step
    parts_step

-- a message, at each depth, each by its own type
abbrev pub view : DynamicMessage → Message
view m = held_view m.held m.descriptor.pool.now m.descriptor.index

-- the same of what it holds, as a type at a place has it
abbrev pub contents_view : List (ℕ × Value) → List (ℕ × Content)
contents_view es = map (on_value content_view) es

abbrev pub view_of : PoolType → ℕ → contents.Content → Message
view_of pool i c = held_under pool i (contents_view c.fields) (contents_view c.extensions) c.unknown
