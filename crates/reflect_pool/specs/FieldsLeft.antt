-- What an iterator over fields has left: each field by its message type and its place there.
use Rattle.std.specs.Prelude.{ℕ, List, length}
use Rattle.reflect_tables.specs.Types.{FieldType, type_at, type_of_field}
use Rattle.reflect_pool.specs.PlacesLeft.{places_from}
use Rattle.reflect_pool.specs.declared.field.FieldDescriptor.{FieldDescriptor}
use Rattle.reflect_pool.specs.declared.message.Fields.{Fields}
use Rattle.reflect_pool.specs.declared.message.MessageDescriptor.{MessageDescriptor}

abbrev pub field_type : FieldDescriptor → FieldType
field_type f = type_of_field f.message.pool.now f.message.index f.index

abbrev pub field_place : FieldDescriptor → MessageDescriptor × ℕ
field_place f = (f.message, f.index)

-- the type of the field at a place
abbrev pub type_in : MessageDescriptor × ℕ → FieldType
type_in p = type_of_field p.0.pool.now p.0.index p.1

abbrev pub fields_left : Fields → List (MessageDescriptor × ℕ)
fields_left s =
    places_from s.message s.next (length (type_at s.message.pool.now s.message.index).fields)
