-- What the printer expands of a google.protobuf.Any.
use Rattle.std.specs.Prelude.{◌≡◌, ℕ, true, List, Option, None, Some}
use Rattle.protox_lex.specs.Class.{Text}
use Rattle.protobuf_model.specs.Types.{Name}
use Rattle.protobuf_model.specs.Values.{Message}
use Rattle.reflect_tables.specs.Types.{PoolType, FieldType}
use Rattle.reflect_pool.specs.declared.message.MessageDescriptor.{MessageDescriptor}
use Rattle.reflect_wire.specs.declared.wire_error.WireError.{WireError}
use Rattle.reflect_decode.specs.Spelled.{IsSpelled, TellsWhy}
use Rattle.reflect_message.specs.Known.{known_field}
use Rattle.reflect_message.specs.Names.{DynamicMessage}
use Rattle.message_view.specs.Types.{name_at}
use Rattle.message_view.specs.Views.{view}
use Rattle.print_parts.specs.Expands.{IsFault}
use Rattle.text_view.specs.Schemas.{is_any_at}

-- bytes are decoded as `decode` does: what it gives of them is what is seen of its message, and of
-- those that it refuses, but for want of memory, nothing
abbrev pub DecodesIn : PoolType → (Name → Text → Option Message) → Type 0
DecodesIn pool decoded =
    (d : MessageDescriptor) → d.pool.now ≡ pool → (bytes : List ℕ)
    → ((m : DynamicMessage) → m.descriptor ≡ d → IsSpelled d bytes m
    → decoded (name_at pool d.index) bytes ≡ Some (view m))
    × ((e : WireError) → IsFault e → TellsWhy d bytes e
    → decoded (name_at pool d.index) bytes ≡ None)

-- a google.protobuf.Any gives its fields no defaults
abbrev pub HasUsualAny : PoolType → Type 0
HasUsualAny pool =
    (i n : ℕ) (f : FieldType) → is_any_at pool i ≡ true → known_field pool i n ≡ Some f
    → f.default ≡ None
