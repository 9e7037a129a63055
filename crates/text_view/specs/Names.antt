-- How texts name what the types of a pool have.
use Rattle.std.specs.Prelude.{ℕ, ℤ, ◌==◌, ◌&&◌, cond, not, Bool, false, [], map, Option, None, Some, option_map}
use Rattle.std.specs.Char.{to_ascii_lowercase}
use Rattle.std.specs.List.{find, filter}
use Rattle.std.specs.Option.{option_and_then}
use Rattle.std.specs.Ordering.{int_eq}
use Rattle.std.specs.Str.{bytes_eq}
use Rattle.protox_lex.specs.Class.{Text}
use Rattle.reflect_tables.specs.Types.{PoolType, FieldType, KindType, type_at, enum_at}
use Rattle.reflect_tables.specs.Types as types
use Rattle.reflect_message.specs.Known.{holds_floats, if_held, known_field, known_extension}
use Rattle.reflect_print.specs.Named.{label_of}
use Rattle.protobuf_model.specs.Types.{Name}
use Rattle.text_model.specs.Schemas.{Names}
use Rattle.message_view.specs.Types.{name_at, values_of}

-- the first field of the type at a place that has the name
abbrev pub first_called : PoolType → ℕ → Text → Option FieldType
first_called pool i w = find (λ f. bytes_eq f.name w) (type_at pool i).fields

abbrev pub if_plain : FieldType → Option FieldType
if_plain f = cond f.group None (Some f)

-- the kind is a message type of the name
abbrev pub is_type_called : PoolType → Text → KindType → Bool
is_type_called pool w (types.message i) = bytes_eq (type_at pool i).name w
is_type_called pool w _ = false

abbrev pub if_group_called : PoolType → Text → FieldType → Option FieldType
if_group_called pool w f = cond (f.group && is_type_called pool w f.kind) (Some f) None

-- a field that is no group, if messages hold it, or else a group
abbrev pub held_or : PoolType → (plain group : Option FieldType) → Option FieldType
held_or pool (Some f) g = if_held pool f
held_or pool None g = g

-- the field that a text calls so: one that is no group by its name, or else a group, which has the
-- name of its type in lower case, by that of its type
abbrev pub field_called : PoolType → ℕ → Text → Option FieldType
field_called pool i w =
    held_or pool (option_and_then if_plain (first_called pool i w))
    (option_and_then (if_group_called pool w) (first_called pool i (map to_ascii_lowercase w)))

-- the extension of the full name
abbrev pub extension_called : PoolType → ℕ → Text → Option FieldType
extension_called pool i w =
    option_and_then (λ x. if_held pool x.field)
    (find (λ x. (x.extendee == i) && bytes_eq x.field.full_name w) pool.extensions)

-- a field bears its name, or a group that of its type, and an extension its full name
abbrev pub printed_name : PoolType → (field extension : Option FieldType) → Text
printed_name pool (Some f) x = label_of pool f
printed_name pool None (Some x) = x.full_name
printed_name pool None None = []

-- the enum's number of a name, and its name of a number, each of the first value that has it
abbrev pub number_in : PoolType → KindType → Text → Option ℤ
number_in pool (types.enumeration i) w =
    option_map (λ v. v.number) (find (λ v. bytes_eq v.name w) (enum_at pool i).values)
number_in pool _ w = None

abbrev pub name_in : PoolType → KindType → ℤ → Option Text
name_in pool (types.enumeration i) z =
    option_map (λ v. v.name) (find (λ v. int_eq v.number z) (enum_at pool i).values)
name_in pool _ z = None

-- what values of a field or else of an extension are: those of a map are its entries' values
abbrev pub value_kind : PoolType → (field extension : Option FieldType) → Option KindType
value_kind pool (Some f) x = Some (values_of pool f).kind
value_kind pool None (Some x) = Some (values_of pool x).kind
value_kind pool None None = None

abbrev pub kind_at : PoolType → ℕ → ℕ → Option KindType
kind_at pool i n = value_kind pool (known_field pool i n) (known_extension pool i n)

-- the type that the kind of a field or else of an extension is: of a map that of its entries
abbrev pub kind_name : PoolType → KindType → Name
kind_name pool (types.message i) = name_at pool i
kind_name pool _ = []

abbrev pub entry_name : PoolType → (field extension : Option FieldType) → Name
entry_name pool (Some f) x = kind_name pool f.kind
entry_name pool None (Some x) = kind_name pool x.kind
entry_name pool None None = []

-- the names that the type at a place has
abbrev pub names_of : PoolType → ℕ → Names
names_of pool i = record {
  field = λ w. option_map (λ f. f.number) (field_called pool i w);
  extension = λ w. option_map (λ x. x.number) (extension_called pool i w);
  name = λ n. printed_name pool (known_field pool i n) (known_extension pool i n);
  declared = map (λ f. f.number)
      (filter (λ f. not (holds_floats pool f)) (type_at pool i).fields);
  enum_number = λ n w. option_and_then (λ k. number_in pool k w) (kind_at pool i n);
  enum_name = λ n z. option_and_then (λ k. name_in pool k z) (kind_at pool i n);
  entry = λ n. entry_name pool (known_field pool i n) (known_extension pool i n);
}
