-- What is met in messages.
--
-- Source: the comments of `Location` in protobuf's `descriptor.proto`.
use Rattle.std.specs.Prelude.{List, [], ◌∷◌, ◌++◌, Option, None, Some, option_map}
use Rattle.std.specs.List.{fold}
use Rattle.descriptor_records.specs.declared.field.Label.{Label}
use Rattle.descriptor_records.specs.declared.tag.extension_range.TheConstants as extension_ranges
use Rattle.descriptor_records.specs.declared.tag.field.TheConstants as fields
use Rattle.descriptor_records.specs.declared.tag.message.TheConstants as messages
use Rattle.descriptor_records.specs.declared.tag.oneof.TheConstants as oneofs
use Rattle.protox_lex.specs.declared.span.Span.{Span}
use Rattle.protox_locate.specs.Declarations.{after_reserved, each, entry, enum_events, field_list_events, list_events, more, no_lists, none, option_events, part_if, range_events, reserved_events}
use Rattle.protox_locate.specs.Located.{Event, Path, closing, empty, inside, part, statement}
use Rattle.protox_locate.specs.declared.messages.MessageCounts.{MessageCounts}
use Rattle.protox_locate.specs.declared.messages.OneofCounts.{OneofCounts}
use Rattle.protox_locate.specs.declared.slot.Count.{Count}
use Rattle.protox_locate.specs.declared.slot.FieldCounts.{FieldCounts}
use Rattle.protox_locate.specs.declared.slot.FieldTags.{FieldTags}
use Rattle.protox_tree.specs.Nest.{Added, AddedItem, Extend, Extensions, Field, Group, Item, Items, Kind, Member, Members, Message, Oneof, a_group, added_empty, added_field, extend, field, group, item_empty, item_enum, item_extend, item_extensions, item_field, item_message, item_oneof, item_option, item_reserved, map_kind, member_empty, member_field, member_option, message, more_added, more_items, more_members, no_items, no_members, none_added, normal, oneof}
use Rattle.protox_tree.specs.Places.{type_name_span}
use Rattle.protox_tree.specs.Tree.{OptionList, Ty, named, scalar}
use Rattle.protox_tree.specs.declared.range.ReservedRange.{ReservedRange}

-- ---- extension ranges

-- The options of the statement are those of each of its ranges.
abbrev pub extension_events : Path → Option OptionList → Count → ReservedRange → List Event
extension_events path options count r =
    range_events (entry path messages.EXTENSION_RANGE count) r
    ++ list_events (entry path messages.EXTENSION_RANGE count) extension_ranges.OPTIONS options

abbrev pub after_range : Count → ReservedRange → Count
after_range count r = more count

abbrev pub extensions_events : Path → Count → Extensions → List Event
extensions_events path count e =
    statement path (messages.EXTENSION_RANGE ∷ []) e.span e.span.end
    ∷ each (extension_events path e.options) after_range count e.ranges

-- ---- fields

abbrev pub label_span : Option (Label × Span) → Option Span
label_span = option_map (λ l. l.1)

-- A type has its number where it is written as a word, and else its name.
abbrev pub ty_events : Path → Ty → List Event
ty_events path (scalar t span) = part path (fields.TYPE ∷ []) span ∷ []
ty_events path (named t) = part path (fields.TYPE_NAME ∷ []) (type_name_span t) ∷ []

-- A group has both.
abbrev pub type_events : Path → Span → Kind → List Event
type_events path name (normal t) = ty_events path t
type_events path name (group (a_group word braces items)) = part path (fields.TYPE ∷ []) word
    ∷ (part path (fields.TYPE_NAME ∷ []) name ∷ [])
type_events path name (map_kind m) = part path (fields.TYPE_NAME ∷ []) m.span ∷ []

-- the parts of a field, or of an extension of this type
abbrev pub field_parts_events : Path → Option Span → Field → List Event
field_parts_events path extendee (field label kind name number options span) =
    part path (fields.NAME ∷ []) name.span ∷ []
    ++ part_if path (fields.EXTENDEE ∷ []) extendee
    ++ part path (fields.NUMBER ∷ []) number.span ∷ []
    ++ part_if path (fields.LABEL ∷ []) (label_span label)
    ++ type_events path name.span kind
    ++ field_list_events path options

-- a group and a map declare a type
abbrev pub after_type : Count → Kind → Count
after_type types (normal t) = types
after_type types (group g) = more types
after_type types (map_kind m) = more types

abbrev pub after_field : FieldCounts → Field → FieldCounts
after_field counts (field label kind name number options span) =
    record { fields = more counts.fields; types = after_type counts.types kind }

-- ---- lists of a message

-- without entries so far
abbrev pub no_counts : MessageCounts
no_counts = record {
  fields = none;
  extensions = none;
  nested_types = none;
  enum_types = none;
  extension_ranges = none;
  oneofs = none;
  options = none;
  reserved = no_lists messages.RESERVED_RANGE messages.RESERVED_NAME;
}

-- fields and extensions, and the types that they declare
abbrev pub own_fields : MessageCounts → FieldCounts
own_fields c = record { fields = c.fields; types = c.nested_types }

abbrev pub own_extensions : MessageCounts → FieldCounts
own_extensions c = record { fields = c.extensions; types = c.nested_types }

abbrev pub with_fields : MessageCounts → FieldCounts → MessageCounts
with_fields c f = record c { fields = f.fields; nested_types = f.types }

abbrev pub with_extensions : MessageCounts → FieldCounts → MessageCounts
with_extensions c f = record c { extensions = f.fields; nested_types = f.types }

abbrev pub own_tags : FieldTags
own_tags = record { field = messages.FIELD; nested_type = messages.NESTED_TYPE }

abbrev pub extension_tags : FieldTags
extension_tags = record { field = messages.EXTENSION; nested_type = messages.NESTED_TYPE }

abbrev pub after_added_item : FieldCounts → AddedItem → FieldCounts
after_added_item c (added_field f) = after_field c f
after_added_item c (added_empty span) = c

abbrev pub after_added : FieldCounts → Added → FieldCounts
after_added c none_added = c
after_added c (more_added i is) = after_added (after_added_item c i) is

abbrev pub after_extend : FieldCounts → Extend → FieldCounts
after_extend c (extend extendee braces items span) = after_added c items

-- The fields of a oneof are those of the message around it, its options its own.
abbrev pub after_member : OneofCounts → Member → OneofCounts
after_member c (member_field f) = record c { fields = after_field c.fields f }
after_member c (member_option o) = record c { options = more c.options }
after_member c (member_empty span) = c

abbrev pub after_members : OneofCounts → Members → OneofCounts
after_members c no_members = c
after_members c (more_members i is) = after_members (after_member c i) is

abbrev pub in_oneof : FieldCounts → OneofCounts
in_oneof f = record { fields = f; options = none }

abbrev pub after_oneof : FieldCounts → Oneof → FieldCounts
after_oneof c (oneof name braces members span) = (after_members (in_oneof c) members).fields

abbrev pub after_item : MessageCounts → Item → MessageCounts
after_item c (item_field f) = with_fields c (after_field (own_fields c) f)
after_item c (item_oneof o) = record (with_fields c (after_oneof (own_fields c) o))
    { oneofs = more c.oneofs }
after_item c (item_message m) = record c { nested_types = more c.nested_types }
after_item c (item_enum e) = record c { enum_types = more c.enum_types }
after_item c (item_extend e) = with_extensions c (after_extend (own_extensions c) e)
after_item c (item_extensions e) =
    record c { extension_ranges = fold after_range c.extension_ranges e.ranges }
after_item c (item_reserved r) = record c { reserved = after_reserved c.reserved r }
after_item c (item_option o) = record c { options = more c.options }
after_item c (item_empty span) = c

-- ---- what is met

abbrev mutual
  -- a message whose record stands at this path
  pub message_events : Path → Message → List Event
  message_events path (message name braces items span) =
      (statement path [] span (inside braces) ∷ (part path (messages.NAME ∷ []) name.span ∷ []))
      ++ items_events path no_counts items
      ++ closing braces ∷ []

  pub items_events : Path → MessageCounts → Items → List Event
  items_events path c no_items = []
  items_events path c (more_items i is) = item_events path c i
      ++ items_events path (after_item c i) is

  pub item_events : Path → MessageCounts → Item → List Event
  item_events path c (item_field f) = field_events path own_tags (own_fields c) None f
  item_events path c (item_oneof o) =
      oneof_events path (entry path messages.ONEOF_DECL c.oneofs) (own_fields c) o
  item_events path c (item_message m) =
      message_events (entry path messages.NESTED_TYPE c.nested_types) m
  item_events path c (item_enum e) = enum_events (entry path messages.ENUM_TYPE c.enum_types) e
  item_events path c (item_extend e) = extend_events path extension_tags (own_extensions c) e
  item_events path c (item_extensions e) = extensions_events path c.extension_ranges e
  item_events path c (item_reserved r) = reserved_events path c.reserved r
  item_events path c (item_option o) = option_events path messages.OPTIONS c.options o
  item_events path c (item_empty span) = empty span ∷ []

  -- A field in the record at a path, or an extension of this type. A group stands at its field and
  -- at its type, where its comments are.
  pub field_events : Path → FieldTags → FieldCounts → Option Span → Field → List Event
  field_events path tags c extendee (field label (normal t) name number options span) =
      statement (entry path tags.field c.fields) [] span span.end
      ∷ field_parts_events (entry path tags.field c.fields) extendee
      (field label (normal t) name number options span)
  field_events path tags c extendee (field label (map_kind m) name number options span) =
      statement (entry path tags.field c.fields) [] span span.end
      ∷ field_parts_events (entry path tags.field c.fields) extendee
      (field label (map_kind m) name number options span)
  field_events path tags c extendee (field label (group g) name number options span) =
      (part (entry path tags.field c.fields) [] span
      ∷ field_parts_events (entry path tags.field c.fields) extendee
      (field label (group g) name number options span))
      ++ group_events (entry path tags.nested_type c.types) span name.span g

  pub group_events : Path → Span → Span → Group → List Event
  group_events path span name (a_group word braces items) =
      (statement path [] span (inside braces) ∷ (part path (messages.NAME ∷ []) name ∷ []))
      ++ items_events path no_counts items
      ++ closing braces ∷ []

  -- a oneof at this place of the message at a path
  pub oneof_events : Path → Path → FieldCounts → Oneof → List Event
  oneof_events path at c (oneof name braces members span) =
      (statement at [] span (inside braces) ∷ (part at (oneofs.NAME ∷ []) name.span ∷ []))
      ++ members_events path at (in_oneof c) members
      ++ closing braces ∷ []

  pub members_events : Path → Path → OneofCounts → Members → List Event
  members_events path at c no_members = []
  members_events path at c (more_members i is) = member_events path at c i
      ++ members_events path at (after_member c i) is

  pub member_events : Path → Path → OneofCounts → Member → List Event
  member_events path at c (member_field f) = field_events path own_tags c.fields None f
  member_events path at c (member_option o) = option_events at oneofs.OPTIONS c.options o
  member_events path at c (member_empty span) = empty span ∷ []

  -- An `extend` statement stands at the list of the extensions of the record at a path.
  pub extend_events : Path → FieldTags → FieldCounts → Extend → List Event
  extend_events path tags c (extend extendee braces items span) =
      statement path (tags.field ∷ []) span (inside braces) ∷ []
      ++ added_events path tags c (type_name_span extendee) items
      ++ closing braces ∷ []

  pub added_events : Path → FieldTags → FieldCounts → Span → Added → List Event
  added_events path tags c extendee none_added = []
  added_events path tags c extendee (more_added i is) = added_item_events path tags c extendee i
      ++ added_events path tags (after_added_item c i) extendee is

  pub added_item_events : Path → FieldTags → FieldCounts → Span → AddedItem → List Event
  added_item_events path tags c extendee (added_field f) =
      field_events path tags c (Some extendee) f
  added_item_events path tags c extendee (added_empty span) = empty span ∷ []
