-- The records of messages.
--
-- Source: "Defining A Message Type", "Nested Types", "Oneof", "Maps" and "Reserved Fields" of the
-- language guides on protobuf.dev.
use Rattle.std.specs.Prelude.{◌≡◌, ◌+◌, ◌+ℤ◌, ◌++◌, ◌^◌, ℕ, ℤ, pos, Bool, true, false, if◌then◌else◌, List, [], ◌∷◌, length, map, Option, Some, None, string_bytes}
use Rattle.std.specs.List.{flat_map}
use Rattle.std.specs.Option.{option_and_then}
use Rattle.descriptor_records.specs.Content.{EnumContent, ExtensionRangeContent, FieldContent, MessageContent, message, MessageContents, messages_of, no_messages, more_messages, OneofContent, OptionContent, OptionsContent}
use Rattle.descriptor_records.specs.declared.field.Label.{Label}
use Rattle.descriptor_records.specs.declared.field.Label.TheVariants as labels
use Rattle.descriptor_records.specs.declared.message.ReservedRange.{ReservedRange}
use Rattle.protox_declaration_records.specs.EnumRecords.{enum_of, names_in, ranges_in}
use Rattle.protox_declaration_records.specs.Numbers.{held_by, i32_of, last_of}
use Rattle.protox_declaration_records.specs.OptionRecords.{list_options_of, option_of, options_of}
use Rattle.protox_lex.specs.Class.{Text}
use Rattle.protox_lex.specs.declared.span.Span.{Span}
use Rattle.protox_field_records.specs.FieldRecords.{extension_at, field_of, is_group}
use Rattle.protox_field_records.specs.FieldName.{field_name_of}
use Rattle.protox_field_records.specs.Layers.{AddedLayer, KindLayer, ItemLayer, MemberLayer}
use Rattle.protox_field_records.specs.MapEntries.{entry_of}
use Rattle.protox_field_records.specs.Places.{place_of}
use Rattle.protox_message_records.specs.SyntheticOneofs.{AreNamedAfter, names_of}
use Rattle.protox_tree.specs.NestView.{kind_view}
use Rattle.protox_tree.specs.declared.message.Extend.{Extend}
use Rattle.protox_tree.specs.declared.message.ExtendItem.{ExtendItem}
use Rattle.protox_tree.specs.declared.message.ExtendItem.TheOpen.{ExtendItem-F, FieldKind-F, MessageItem-F, OneofItem-F}
use Rattle.protox_tree.specs.declared.message.ExtendItem.TheViews.{out-ExtendItem, out-FieldKind, out-MessageItem, out-OneofItem}
use Rattle.protox_tree.specs.declared.message.Field.{Field}
use Rattle.protox_tree.specs.declared.message.Map.{Map}
use Rattle.protox_tree.specs.declared.message.Message.{Message}
use Rattle.protox_tree.specs.declared.message.MessageItem.{MessageItem}
use Rattle.protox_tree.specs.declared.message.Oneof.{Oneof}
use Rattle.protox_tree.specs.declared.message.OneofItem.{OneofItem}
use Rattle.protox_tree.specs.declared.option.OptionList.{OptionList}
use Rattle.protox_tree.specs.declared.range.ReservedRange as ranges
use Rattle.protox_tree.specs.declared.types.Syntax.{Syntax}
use Rattle.protox_tree.specs.declared.types.Syntax.TheVariants as syntaxes

-- ---- fields and oneofs

abbrev pub is_optional : Label → Bool
is_optional labels.Optional = true
is_optional labels.Required = false
is_optional labels.Repeated = false

-- the word `optional` tells of presence in proto3
abbrev pub tells_presence : Syntax → Option (Label × Span) → Bool
tells_presence s None = false
tells_presence syntaxes.Proto2 (Some l) = false
tells_presence syntaxes.Proto3 (Some l) = is_optional l.0

-- a field of a message, in this oneof if it is in one
abbrev pub field_in : Syntax → Option ℤ → Field → FieldContent
field_in s oneof f = record (field_of f) {
  oneof_index = oneof;
  proto3_optional = if tells_presence s f.label then Some true else None;
}

-- A field that no oneof is written around: in a oneof of its own, at this place, where it tells of
-- presence.
abbrev pub own_field : Syntax → ℤ → Field → FieldContent
own_field s place f = field_in s (if tells_presence s f.label then Some place else None) f

abbrev pub member_in : Syntax → ℤ → MemberLayer → List FieldContent
member_in s place (OneofItem-F.«OneofItem::Field» f) = field_in s (Some place) f ∷ []
member_in s place _ = []

abbrev pub member_at : Syntax → ℤ → OneofItem → List FieldContent
member_at s place i = member_in s place (out-OneofItem i)

abbrev pub member_option_in : MemberLayer → List OptionContent
member_option_in (OneofItem-F.«OneofItem::Option» o) = option_of o.body ∷ []
member_option_in _ = []

abbrev pub member_option_at : OneofItem → List OptionContent
member_option_at i = member_option_in (out-OneofItem i)

abbrev pub oneof_of : Oneof → OneofContent
oneof_of o = record {
  name = Some (string_bytes o.name.value);
  options = options_of (flat_map member_option_at o.items.items);
}

-- ---- what stands in a message, one by one

-- The fields of an item, where so many oneofs are written before it, and so many of all stand
-- before that of the next field which has one of its own.
abbrev pub fields_in : Syntax → ℕ → ℕ → ItemLayer → List FieldContent
fields_in s next behind (MessageItem-F.«MessageItem::Field» f) = own_field s (place_of behind) f
    ∷ []
fields_in s next behind (MessageItem-F.Oneof o) =
    flat_map (member_at s (place_of next)) o.items.items
fields_in s next behind _ = []

abbrev pub fields_at : Syntax → ℕ → ℕ → MessageItem → List FieldContent
fields_at s next behind i = fields_in s next behind (out-MessageItem i)

abbrev pub if_alone : Syntax → Field → List Text
if_alone s f =
    if tells_presence s f.label then field_name_of (string_bytes f.name.value)
    (is_group (kind_view f.kind)) ∷ []
    else []

-- the names of the fields that have a oneof of their own
abbrev pub alone_in : Syntax → ItemLayer → List Text
alone_in s (MessageItem-F.«MessageItem::Field» f) = if_alone s f
alone_in s _ = []

abbrev pub alone_at : Syntax → MessageItem → List Text
alone_at s i = alone_in s (out-MessageItem i)

abbrev pub oneof_in : ItemLayer → List OneofContent
oneof_in (MessageItem-F.Oneof o) = oneof_of o ∷ []
oneof_in _ = []

abbrev pub oneof_at : MessageItem → List OneofContent
oneof_at i = oneof_in (out-MessageItem i)

abbrev pub extensions_in : ItemLayer → List FieldContent
extensions_in (MessageItem-F.Extend e) = flat_map (extension_at e.extendee) e.items.items
extensions_in _ = []

abbrev pub extensions_at : MessageItem → List FieldContent
extensions_at i = extensions_in (out-MessageItem i)

abbrev pub enum_in : ItemLayer → List EnumContent
enum_in (MessageItem-F.Enum e) = enum_of e ∷ []
enum_in _ = []

abbrev pub enum_at : MessageItem → List EnumContent
enum_at i = enum_in (out-MessageItem i)

abbrev pub option_in : ItemLayer → List OptionContent
option_in (MessageItem-F.«MessageItem::Option» o) = option_of o.body ∷ []
option_in _ = []

abbrev pub option_at : MessageItem → List OptionContent
option_at i = option_in (out-MessageItem i)

-- The number behind the last one of a range; `max` stands for the greatest field number.
abbrev pub end_of : ranges.ReservedRange → Option ℤ
end_of range = option_and_then (λ z. held_by (2 ^ 31) (z +ℤ pos 1)) (last_of range (pos 536870911))

abbrev pub reserved_range_of : ranges.ReservedRange → ReservedRange
reserved_range_of range = record { start = i32_of range.start; end = end_of range }

abbrev pub reserved_ranges_in : ItemLayer → List ReservedRange
reserved_ranges_in (MessageItem-F.Reserved r) = map reserved_range_of (ranges_in r.items)
reserved_ranges_in _ = []

abbrev pub reserved_ranges_at : MessageItem → List ReservedRange
reserved_ranges_at i = reserved_ranges_in (out-MessageItem i)

abbrev pub reserved_names_in : ItemLayer → List Text
reserved_names_in (MessageItem-F.Reserved r) = names_in r.items
reserved_names_in _ = []

abbrev pub reserved_names_at : MessageItem → List Text
reserved_names_at i = reserved_names_in (out-MessageItem i)

-- numbers for extensions, with the options of their statement
abbrev pub extension_range_of : Option OptionList → ranges.ReservedRange → ExtensionRangeContent
extension_range_of list range =
    record { start = i32_of range.start; end = end_of range; options = list_options_of list }

abbrev pub extension_ranges_in : ItemLayer → List ExtensionRangeContent
extension_ranges_in (MessageItem-F.Extensions e) = map (extension_range_of e.options) e.ranges.items
extension_ranges_in _ = []

abbrev pub extension_ranges_at : MessageItem → List ExtensionRangeContent
extension_ranges_at i = extension_ranges_in (out-MessageItem i)

-- the fields of all items, with these places
abbrev pub fields_from : Syntax → ℕ → ℕ → List MessageItem → List FieldContent
fields_from s next behind [] = []
fields_from s next behind (i ∷ is) =
    fields_at s next behind i ++ fields_from s (next + length (oneof_at i))
    (behind + length (alone_at s i)) is

-- ---- types

-- A type that is declared: by its items, as messages and groups are, or for the entries of a map.
pub data Declared : Type 0 where
  of_items : Text → List MessageItem → Declared
  of_map : Text → Map → Declared

abbrev pub types_of_kind : Text → KindLayer → List Declared
types_of_kind name (FieldKind-F.Normal ty) = []
types_of_kind name (FieldKind-F.Group g) = of_items name g.items.items ∷ []
types_of_kind name (FieldKind-F.Map m) = of_map name m ∷ []

abbrev pub types_of_field : Field → List Declared
types_of_field f = types_of_kind (string_bytes f.name.value) (out-FieldKind f.kind)

abbrev pub types_of_member : MemberLayer → List Declared
types_of_member (OneofItem-F.«OneofItem::Field» f) = types_of_field f
types_of_member _ = []

abbrev pub types_of_member_item : OneofItem → List Declared
types_of_member_item i = types_of_member (out-OneofItem i)

abbrev pub types_of_oneof : Oneof → List Declared
types_of_oneof o = flat_map types_of_member_item o.items.items

abbrev pub types_of_added : AddedLayer → List Declared
types_of_added (ExtendItem-F.«ExtendItem::Field» f) = types_of_field f
types_of_added _ = []

abbrev pub types_of_added_item : ExtendItem → List Declared
types_of_added_item i = types_of_added (out-ExtendItem i)

abbrev pub types_of_extend : Extend → List Declared
types_of_extend e = flat_map types_of_added_item e.items.items

abbrev pub type_of_message : Message → Declared
type_of_message m = of_items (string_bytes m.name.value) m.items.items

abbrev pub types_in : ItemLayer → List Declared
types_in (MessageItem-F.«MessageItem::Field» f) = types_of_field f
types_in (MessageItem-F.Oneof o) = types_of_oneof o
types_in (MessageItem-F.Message m) = type_of_message m ∷ []
types_in (MessageItem-F.Extend e) = types_of_extend e
types_in _ = []

abbrev pub types_at : MessageItem → List Declared
types_at i = types_in (out-MessageItem i)

-- What a message of these items has beside the types in it: of each kind all that stands there, in
-- order.
pub record IsOfItems (s : Syntax) (name : Text) (items : List MessageItem)
    (given : Option Text) (fields extensions : List FieldContent) (nested : MessageContents)
    (enums : List EnumContent)
    (ranges : List ExtensionRangeContent) (oneofs : List OneofContent)
    (options : Option OptionsContent)
    (reserved : List ReservedRange) (names : List Text) : Type 0 where
  pub named : given ≡ Some name
  pub fields_are : fields ≡ fields_from s 0 (length (flat_map oneof_at items)) items
  pub extensions_are : extensions ≡ flat_map extensions_at items
  pub enums_are : enums ≡ flat_map enum_at items
  pub ranges_are : ranges ≡ flat_map extension_ranges_at items
  pub oneofs_are :
      (more : List OneofContent) × (oneofs ≡ flat_map oneof_at items ++ more)
      × AreNamedAfter (names_of fields extensions nested enums (flat_map oneof_at items))
      (flat_map (alone_at s) items) more
  pub options_are : options ≡ options_of (flat_map option_at items)
  pub reserved_are : reserved ≡ flat_map reserved_ranges_at items
  pub names_are : names ≡ flat_map reserved_names_at items

-- This is the record of a message of this name and these items, in which these types are.
abbrev pub IsMessage : Syntax → Text → List MessageItem → MessageContents → MessageContent → Type 0
IsMessage s name items inside (message given fields extensions nested enums ranges oneofs options
    reserved names) =
    IsOfItems s name items given fields extensions nested enums ranges oneofs options reserved names
    × (nested ≡ inside)

abbrev mutual
  -- This is the record of a type that is declared in a file of this syntax.
  pub IsType : Syntax → Declared → MessageContent → Type 0
  IsType s (of_items name items)
      (message given fields extensions nested enums ranges oneofs options reserved names) =
      IsOfItems s name items given fields extensions nested enums ranges oneofs options reserved
      names
      × AreTypes s (flat_map types_at items) nested
  IsType s (of_map name m) (message given fields extensions nested enums ranges oneofs options
      reserved names) =
      message given fields extensions nested enums ranges oneofs options reserved names
      ≡ entry_of name m

  -- These are the records of these types, in order.
  pub AreTypes : Syntax → List Declared → MessageContents → Type 0
  AreTypes s [] no_messages = Unit {0}
  AreTypes s [] (more_messages m ms) = ⊥
  AreTypes s (t ∷ ts) no_messages = ⊥
  AreTypes s (t ∷ ts) (more_messages m ms) = IsType s t m × AreTypes s ts ms

-- behind the records that were there stand those of more types
abbrev pub AddsTypes : Syntax → List Declared → List MessageContent → List MessageContent → Type 0
AddsTypes s more old new =
    (made : List MessageContent) × (new ≡ old ++ made) × AreTypes s more (messages_of made)
