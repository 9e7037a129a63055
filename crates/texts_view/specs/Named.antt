-- How texts name what the types of a schema's view have.
use Rattle.std.specs.Prelude.{ℕ, ℤ, pos, List, [], length, map, Bool, false, cond, not, is_some, ◌&&◌, ◌==◌, Option, Some, None, codes}
use Rattle.std.specs.Char.{to_ascii_lowercase}
use Rattle.std.specs.List.{filter}
use Rattle.std.specs.Option.{option_and_then, option_map, option_or}
use Rattle.std.specs.Ordering.{int_eq}
use Rattle.std.specs.Str.{bytes_eq}
use Rattle.descriptor_records.specs.Content.{Text, EnumValueContent, FieldContent}
use Rattle.reflect_pool.specs.Dots.{without_dot}
use Rattle.protobuf_model.specs.Types.{Name}
use Rattle.protobuf_model.specs.Values.{Message}
use Rattle.text_model.specs.Schemas.{Names, Schema}
use Rattle.schema_view.specs.Declarations.{Body, FieldFacts, MessageFacts, facts_of, of_extension}
use Rattle.schema_view.specs.Fields.{is_group, is_repeated}
use Rattle.schema_view.specs.Files.{join, text_of}
use Rattle.schema_view.specs.Lawful.{is_dotted}
use Rattle.schema_view.specs.Rules.{is_number}
use Rattle.schema_view.specs.Scalars.{scalar_type}
use Rattle.schema_view.specs.Types.{body_at, extension_named, field_at, field_number, message_at, message_in, name_of_field, names_entry, number_in, own_named, type_at, type_name, types_of, value_number, values_of}
use Rattle.schema_view.specs.Views.{View, first, when}
use Rattle.types_view.specs.Fields.{is_optional}

-- the full name of the first field of a message that has the name
abbrev pub called_in : Name → Text → MessageFacts → Option Text
called_in t w m = first (λ (f : FieldFacts). when (bytes_eq (text_of f.name) w)
    (join t (text_of f.name))) m.fields

abbrev pub first_called : View → Name → Text → Option Text
first_called v t w = option_and_then (called_in t w) (message_at v t)

-- the message that is a field's type
abbrev pub message_of : View → FieldContent → Option MessageFacts
message_of v f = option_and_then message_in (type_at v f)

abbrev pub is_type_called : View → Text → FieldContent → Bool
is_type_called v w f =
    elim (message_of v f) [ None ↦ false | Some m ↦ bytes_eq (text_of m.name) w ]

-- fields by their full names: one that is no group, and a group whose type has the name
abbrev pub if_plain : View → Text → Option Text
if_plain v n = option_and_then (λ f. when (not (is_group f)) n) (field_at v n)

abbrev pub if_group_called : View → Text → Text → Option Text
if_group_called v w n =
    option_and_then (λ f. when (is_group f && is_type_called v w f) n) (field_at v n)

abbrev pub number_at : View → Text → Option ℕ
number_at v n = option_map (λ f. field_number (facts_of f)) (field_at v n)

-- the number of a field, if messages hold it
abbrev pub held_number : View → Name → Text → Option ℕ
held_number v t n = cond (is_some (own_named v t n)) (number_at v n) None

-- what is called so is the plain field, also where messages do not hold it: it hides a group
abbrev pub plain_or_group : View → Name → (plain group : Option Text) → Option ℕ
plain_or_group v t (Some n) g = held_number v t n
plain_or_group v t None g = option_and_then (number_at v) g

-- the number of the field that a text calls so: one that is no group by its name, or else a group,
-- which has the name of its type in lower case, by that of its type
abbrev pub number_called : View → Name → Text → Option ℕ
number_called v t w =
    plain_or_group v t (option_and_then (if_plain v) (first_called v t w))
    (option_and_then (if_group_called v w) (first_called v t (map to_ascii_lowercase w)))

abbrev pub extension_in : Body → Option FieldContent
extension_in (of_extension x) = Some x
extension_in _ = None

-- the number of the extension of the full name, if it extends the message and messages hold it
abbrev pub extension_called : View → Name → Text → Option ℕ
extension_called v t w = option_and_then (λ x.
    when (is_dotted t x.extendee && is_some (extension_named v w)) (field_number (facts_of x)))
    (option_and_then extension_in (body_at v w))

-- the full names of the field and of the extension of a number, if messages hold them
abbrev pub field_under : View → Name → ℕ → Option Text
field_under v t n =
    option_and_then (λ w. when (is_some (own_named v t w)) w) (name_of_field v t n)

abbrev pub extension_under : View → Name → ℕ → Option Text
extension_under v t n =
    option_and_then (λ w. when (is_some (extension_named v w)) w) (v.extensions (t, pos n))

-- a field is printed under its name, a group under that of its type, an extension under its full
-- name
abbrev pub label_of : View → FieldContent → Text
label_of v f = elim (cond (is_group f) (message_of v f) None)
    [ None ↦ text_of f.name | Some m ↦ text_of m.name ]

abbrev pub printed_name : View → (field extension : Option Text) → Text
printed_name v (Some n) x = elim (field_at v n) [ None ↦ [] | Some f ↦ label_of v f ]
printed_name v None x = text_of x

-- the record of the field, or else of the extension, that messages hold under a number
abbrev pub record_under : View → Name → ℕ → Option FieldContent
record_under v t n =
    option_and_then (field_at v) (option_or (field_under v t n) (extension_under v t n))

-- what values are of: those of a map are of the field of its entries under 2
abbrev pub of_values : View → FieldContent → Option FieldContent
of_values v f = cond (is_repeated f && names_entry v f)
    (option_and_then (field_at v) (name_of_field v (type_name f) 2)) (Some f)

-- the values of the enum that values under a number are of
abbrev pub enum_values : View → Name → ℕ → List EnumValueContent
enum_values v t n = elim (option_and_then (of_values v) (record_under v t n))
    [ None ↦ [] | Some f ↦ values_of (type_at v f) ]

-- the name of the first value of a number
abbrev pub name_of_value : ℤ → List EnumValueContent → Option Text
name_of_value z vs = first (λ v. when (int_eq (number_in v) z) (text_of v.name)) vs

-- the message type of what messages hold under a number: of a map that of its entries
abbrev pub message_name : View → FieldContent → Name
message_name v f = elim (message_of v f) [ None ↦ [] | Some m ↦ type_name f ]

abbrev pub entry_type : View → Name → ℕ → Name
entry_type v t n = elim (record_under v t n) [ None ↦ [] | Some f ↦ message_name v f ]

-- the numbers of the fields that messages hold, as they are declared
abbrev pub numbers_in : View → Name → MessageFacts → List ℕ
numbers_in v t m = map field_number
    (filter (λ (f : FieldFacts). is_some (own_named v t (join t (text_of f.name)))) m.fields)

abbrev pub names_in : View → Name → Names
names_in v t = record {
  field = number_called v t;
  extension = extension_called v t;
  name = λ n. printed_name v (field_under v t n) (extension_under v t n);
  declared = elim (message_at v t) [ None ↦ [] | Some m ↦ numbers_in v t m ];
  enum_number = λ n w. value_number w (enum_values v t n);
  enum_name = λ n z. name_of_value z (enum_values v t n);
  entry = entry_type v t;
}

-- the message of a full name, before which a dot may stand
abbrev pub type_called : View → Text → Option Name
type_called v w = option_map (λ m. without_dot w) (message_at v (without_dot w))

-- so many of the message's fields are in the oneof of the index
abbrev pub member_count : ℕ → Option MessageFacts → ℕ
member_count k m = elim m [
  | None ↦ 0
  | Some x ↦ length (filter (λ (f : FieldFacts). is_number (pos k) f.oneof) x.fields)
]

-- a field of the message is in a oneof, and not alone in it for having been declared `optional`
abbrev pub shares : Option MessageFacts → FieldContent → Bool
shares m f = elim f.oneof_index [
  | Some (pos k) ↦ not (is_optional f && (member_count k m == 1))
  | _ ↦ false
]

-- the field under a number is of the scalar type of another, holds one value and shares no oneof
abbrev pub is_lone : View → Name → ℕ → ℤ → Bool
is_lone v t n type = elim (option_and_then (field_at v) (name_of_field v t n)) [
  | None ↦ false
  | Some f ↦ is_number type (scalar_type f.field_type f.type_name)
      && (not (is_repeated f) && not (shares (message_at v t) f))
]

-- the message is google.protobuf.Any, with a string (9) under 1 and bytes (12) under 2
abbrev pub is_any : View → Name → Bool
is_any v t = bytes_eq t (codes "google.protobuf.Any")
    && (is_lone v t 1 (pos 9) && is_lone v t 2 (pos 12))

abbrev pub schema_in : View → (Name → Text → Option Message) → Schema
schema_in v decoded = record {
  types = types_of v;
  names = names_in v;
  message = type_called v;
  is_any = is_any v;
  decoded = decoded;
}
