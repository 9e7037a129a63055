-- What a pool says to texts of its types.
use Rattle.std.specs.Prelude.{ℕ, ◌&&◌, not, Bool, true, false, Option, None, Some, option_map, codes}
use Rattle.std.specs.List.{find}
use Rattle.std.specs.Str.{bytes_eq}
use Rattle.protox_lex.specs.Class.{Text}
use Rattle.protobuf_model.specs.Types.{Name}
use Rattle.protobuf_model.specs.Values.{Message}
use Rattle.reflect_tables.specs.Types.{PoolType, FieldType, KindType, type_at}
use Rattle.reflect_tables.specs.Types as types
use Rattle.reflect_pool.specs.Dots.{without_dot}
use Rattle.reflect_pool.specs.Shapes.{holds_list, holds_map}
use Rattle.reflect_any.specs.Any.{shares}
use Rattle.reflect_message.specs.Known.{numbered_field}
use Rattle.text_model.specs.Schemas.{Schema, Shape}
use Rattle.message_view.specs.Types.{field_at, place_in, types_of}
use Rattle.text_view.specs.Names.{names_of}

abbrev pub is_string : KindType → Bool
is_string types.string = true
is_string _ = false

abbrev pub is_bytes : KindType → Bool
is_bytes types.bytes = true
is_bytes _ = false

-- there is a field of such a kind, which holds one value and shares no oneof
abbrev pub is_lone : PoolType → ℕ → (KindType → Bool) → Option FieldType → Bool
is_lone pool i is_kind None = false
is_lone pool i is_kind (Some f) =
    is_kind f.kind
    && (not (holds_list pool f) && (not (holds_map pool f) && not (shares pool i f)))

-- the type at a place is google.protobuf.Any, with a string under 1 and bytes under 2
abbrev pub is_any_at : PoolType → ℕ → Bool
is_any_at pool i =
    bytes_eq (type_at pool i).full_name (codes "google.protobuf.Any")
    && (is_lone pool i is_string (numbered_field pool i 1)
    && is_lone pool i is_bytes (numbered_field pool i 2))

-- the type of a full name, before which a dot may stand
abbrev pub type_called : PoolType → Text → Option Name
type_called pool w =
    option_map (λ m. m.full_name) (find (λ m. bytes_eq m.full_name (without_dot w)) pool.messages)

abbrev pub schema_of : PoolType → (Name → Text → Option Message) → Schema
schema_of pool decoded = record {
  types = types_of pool;
  names = λ t. names_of pool (place_in pool.messages t);
  message = type_called pool;
  is_any = λ t. is_any_at pool (place_in pool.messages t);
  decoded = decoded;
}

-- what the fields of a text are found in, in a message of the type at a place
abbrev pub shape_at : PoolType → ℕ → Shape
shape_at pool i = record {
  fields = field_at pool i;
  names = names_of pool i;
  is_any = is_any_at pool i;
}
