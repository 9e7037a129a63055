-- The types of messages that a pool has.
use Rattle.std.specs.Prelude.{ℕ, suc, List, [], ◌∷◌, Bool, true, false, cond, Option, None, Some, bytes_eq}
use Rattle.std.specs.Option.{option_and_then, unwrap_or}
use Rattle.reflect_tables.specs.Types.{PoolType, FieldType, KindType, MessageType, type_at, no_field}
use Rattle.reflect_tables.specs.Types as types
use Rattle.reflect_pool.specs.Parts.{members_of}
use Rattle.reflect_pool.specs.Shapes.{is_repeated, holds_map}
use Rattle.reflect_entries.specs.Members.{first_number}
use Rattle.reflect_scalar.specs.Defaults.{default_in}
use Rattle.reflect_message.specs.Known.{entry_field, known_field, known_extension}
use Rattle.protobuf_model.specs.Values.{Single, text}
use Rattle.protobuf_model.specs.Types.{Name, Frame, sized, tagged, Kind, scalar, nested, Part, Key, Label, one, many, keyed, Field, Types}
use Rattle.message_view.specs.Singles.{scalar_of, single_view}

-- the full name of the type at a place
abbrev pub name_at : PoolType → ℕ → Name
name_at pool i = (type_at pool i).full_name

abbrev pub frame_of : Bool → Frame
frame_of group = cond group tagged sized

-- messages of a group field stand between its tags
abbrev pub kind_in : PoolType → Bool → KindType → Kind
kind_in pool group (types.message i) = nested (frame_of group) (name_at pool i)
kind_in pool group t = scalar (scalar_of t)

-- of a message nothing that counts
abbrev pub default_of : PoolType → FieldType → Single
default_of pool f = elim (default_in pool f) [ None ↦ text [] | Some v ↦ single_view v ]

abbrev pub part_of : PoolType → FieldType → Part
part_of pool f = record {
  kind = kind_in pool f.group f.kind;
  presence = f.presence;
  default = default_of pool f;
}

abbrev pub key_of : PoolType → FieldType → Key
key_of pool f = record {
  kind = scalar_of f.kind;
  presence = f.presence;
  default = default_of pool f;
}

-- the key of a map's entries under 1, and the value under 2
abbrev pub entry_part : PoolType → FieldType → ℕ → FieldType
entry_part pool f n = unwrap_or (entry_field pool f.kind n) no_field

-- the field whose part is the model's: of a map that of its values
abbrev pub values_of : PoolType → FieldType → FieldType
values_of pool f = cond (holds_map pool f) (entry_part pool f 2) f

abbrev pub label_of : PoolType → FieldType → Label
label_of pool f =
    cond (holds_map pool f) (keyed (key_of pool (entry_part pool f 1)))
    (cond (is_repeated f.cardinality) (many f.packed) one)

abbrev pub field_of : PoolType → Option ℕ → Bool → FieldType → Field
field_of pool oneof extension f = record {
  part = part_of pool (values_of pool f);
  label = label_of pool f;
  oneof = oneof;
  extension = extension;
}

-- a oneof is told by the number of its first member
abbrev pub oneof_at : PoolType → ℕ → FieldType → Option ℕ
oneof_at pool i f = option_and_then (λ k. first_number (members_of pool i k)) f.oneof

-- the field of a number, or else the extension, which is in no oneof
abbrev pub either_field : PoolType → ℕ → Option FieldType → Option FieldType → Option Field
either_field pool i (Some f) x = Some (field_of pool (oneof_at pool i f) false f)
either_field pool i None (Some x) = Some (field_of pool None true x)
either_field pool i None None = None

-- those of the type at a place that messages hold
abbrev pub field_at : PoolType → ℕ → ℕ → Option Field
field_at pool i n = either_field pool i (known_field pool i n) (known_extension pool i n)

-- the place of the first type of a name; where none has it, the one behind the last
abbrev pub place_in : List MessageType → Name → ℕ
place_in [] t = 0
place_in (m ∷ ms) t = cond (bytes_eq m.full_name t) 0 (suc (place_in ms t))

abbrev pub types_of : PoolType → Types
types_of pool t n = field_at pool (place_in pool.messages t) n
