-- The records of fields and extensions have identifiers for names, and those of groups the types
-- that they declare.
use Rattle.std.proofs.Common.{◌≡◌, ◌∙◌, ◌+◌, ◌++◌, ℕ, ℤ, true, List, [], ◌∷◌, length, Option, Some, flat_map, string_bytes, refl, ap, sym}
use Rattle.std.specs.List.{AllByRecursion}
use Rattle.descriptor_records.specs.Content.{FieldContent, MessageContents}
use Rattle.descriptor_records.specs.FieldNumbers.{type_number}
use Rattle.descriptor_records.specs.declared.field.FieldType.{FieldType}
use Rattle.descriptor_records.specs.declared.field.FieldType.TheVariants as types
use Rattle.protox_field_records.specs.FieldName.{field_name_of}
use Rattle.protox_field_records.specs.FieldRecords.{extension_at, extension_in, is_group, scalar_number, type_name_of, type_of}
use Rattle.protox_field_records.specs.Layers.{AddedLayer, ItemLayer, MemberLayer}
use Rattle.protox_field_records.specs.Places.{place_of}
use Rattle.protox_laws.proofs.Layers.{added_seen, item_seen, member_seen}
use Rattle.protox_lex.specs.Class.{Text}
use Rattle.protox_message_records.specs.MessageRecords.{Declared, alone_at, extensions_at, extensions_in, field_in, fields_at, fields_from, fields_in, member_at, member_in, oneof_at, types_at, types_in, types_of_field, types_of_member, types_of_member_item}
use Rattle.protox_tokens.specs.Marks.{Each}
use Rattle.protox_tree.specs.Nest as tree
use Rattle.protox_tree.specs.Nest.{group, map_kind, normal}
use Rattle.protox_tree.specs.NestView.{extend_view, field_view, kind_view}
use Rattle.protox_tree.specs.Tree.{Ty, named, scalar}
use Rattle.protox_tree.specs.declared.ident.TypeName.{TypeName}
use Rattle.protox_tree.specs.declared.message.Extend.{Extend}
use Rattle.protox_tree.specs.declared.message.ExtendItem.TheOpen.{ExtendItem-F, MessageItem-F, OneofItem-F}
use Rattle.protox_tree.specs.declared.message.ExtendItem.TheViews.{out-ExtendItem, out-MessageItem, out-OneofItem}
use Rattle.protox_tree.specs.declared.message.Field.{Field}
use Rattle.protox_tree.specs.declared.message.MessageItem.{MessageItem}
use Rattle.protox_tree.specs.declared.message.OneofItem.{OneofItem}
use Rattle.protox_tree.specs.declared.types.Syntax.{Syntax}
use Rattle.source_laws.proofs.DeclaredTypes.{Has, IsThere, field_there, has_left, has_right}
use Rattle.source_laws.proofs.Lists.{all_append, all_made}
use Rattle.source_laws.specs.TreeNames.{IsNamedAdded, IsNamedExtend, IsNamedField, IsNamedItem, IsNamedKind, IsNamedMember, IsNoGroup}
use Rattle.source_laws.proofs.NamedValues.{HasNamedAdded, HasNamedItem, HasNamedMember, extend_added, field_names, oneof_members}
use Rattle.source_laws.proofs.Texts.{lower_identifier}
use Rattle.source_records.specs.SourceNames.{AreSpelled, Declares, IsGroup, IsGroupField, IsSpelled}
use Rattle.text_model.specs.Identifiers.{is_identifier}

-- ---- one field

number_group : (t : FieldType) → type_number t ≡ type_number types.Group → t ≡ types.Group
number_group types.Group e = refl
number_group t e = absurd (cc e)

pub no_group_number : (ty : Ty) → IsNoGroup ty → scalar_number ty ≡ Some (type_number types.Group)
    → ⊥
no_group_number (scalar t span) h e = h (ap Some (number_group t (cc e)))
no_group_number (named name) h e = cc e

pub field_spelled : (name : Text) (k : tree.Kind) → is_identifier name ≡ true
    → IsSpelled (Some (field_name_of name (is_group k)))
field_spelled name (normal ty) h = h
field_spelled name (group g) h = lower_identifier name h
field_spelled name (map_kind m) h = h

module _ (nested : MessageContents) where
  -- it is of its kind's type, and named after its kind
  record IsOfKind (name : Text) (k : tree.Kind) (f : FieldContent) : Type 0 where
    called : f.name ≡ Some (field_name_of name (is_group k))
    typed : f.field_type ≡ type_of k
    type : f.type_name ≡ type_name_of name k

  group_field : (name : Text) (k : tree.Kind) (f : FieldContent) → IsOfKind name k f
      → is_identifier name ≡ true → IsNamedKind k → IsThere (Declares nested) name k → IsGroup f
      → IsGroupField nested f
  group_field name (normal ty) f is spelled h there e =
      absurd (no_group_number ty h (sym is.typed ∙ e))
  group_field name (group g) f is spelled h there e =
      record { type = name; typed = is.type; spelled = spelled; there = there; lower = is.called }
  group_field name (map_kind m) f is spelled h there e = absurd (cc (sym is.typed ∙ e))

  -- it has an identifier for a name, and its type is declared in the message if it is a group
  abbrev pub HasItsNames : FieldContent → Type 0
  HasItsNames f = IsSpelled f.name × (IsGroup f → IsGroupField nested f)

  -- types of these are declared in the message
  abbrev AreThere : List Declared → Type 0
  AreThere ts = (name : Text) → Has ts name → Declares nested name

  there_first : (ts us : List Declared) → AreThere (ts ++ us) → AreThere ts
  there_first ts us there name has = there name (has_left ts us name has)

  there_later : (ts us : List Declared) → AreThere (ts ++ us) → AreThere us
  there_later ts us there name has = there name (has_right ts us name has)

  module _ (s : Syntax) where
    field_named : (oneof : Option ℤ) (f : Field) → IsNamedField (field_view f)
        → AreThere (types_of_field f) → HasItsNames (field_in s oneof f)
    field_named oneof f h there =
        let names = field_names f h in
        let name = string_bytes f.name.value in
        let k = kind_view f.kind in (
          field_spelled name k names.name,
          group_field name k (field_in s oneof f)
              (record { called = refl; typed = refl; type = refl }) names.name names.kind
              (field_there (Declares nested) f there),
        )

    member_named : (place : ℤ) (o : MemberLayer) → IsNamedMember (member_seen o)
        → AreThere (types_of_member o) → AllByRecursion HasItsNames (member_in s place o)
    member_named place (OneofItem-F.«OneofItem::Field» f) h there =
        (field_named (Some place) f h there, tt)
    member_named place o h there = tt

    members_named : (place : ℤ) (is : List OneofItem) → Each HasNamedMember is
        → AreThere (flat_map types_of_member_item is)
        → AllByRecursion HasItsNames (flat_map (member_at s place) is)
    members_named place [] h there = tt
    members_named place (i ∷ is) h there =
        all_append HasItsNames (member_at s place i) (flat_map (member_at s place) is)
        (member_named place (out-OneofItem i) h.0
        (there_first (types_of_member_item i) (flat_map types_of_member_item is) there))
        (members_named place is h.1
        (there_later (types_of_member_item i) (flat_map types_of_member_item is) there))

    item_named : (next behind : ℕ) (o : ItemLayer) → IsNamedItem (item_seen o) → AreThere (types_in o)
        → AllByRecursion HasItsNames (fields_in s next behind o)
    item_named next behind (MessageItem-F.«MessageItem::Field» f) h there = (field_named _ f h there, tt)
    item_named next behind (MessageItem-F.Oneof o) h there =
        members_named (place_of next) o.items.items (oneof_members o h) there
    item_named next behind o h there = tt

    pub items_named : (next behind : ℕ) (is : List MessageItem) → Each HasNamedItem is
        → AreThere (flat_map types_at is)
        → AllByRecursion HasItsNames (fields_from s next behind is)
    items_named next behind [] h there = tt
    items_named next behind (i ∷ is) h there =
        all_append HasItsNames (fields_at s next behind i)
        (fields_from s (next + length (oneof_at i)) (behind + length (alone_at s i)) is)
        (item_named next behind (out-MessageItem i) h.0
        (there_first (types_at i) (flat_map types_at is) there))
        (items_named (next + length (oneof_at i)) (behind + length (alone_at s i)) is h.1
        (there_later (types_at i) (flat_map types_at is) there))

-- ---- extensions

abbrev pub HasName : FieldContent → Type 0
HasName f = IsSpelled f.name

added_spelled : (t : TypeName) (o : AddedLayer) → IsNamedAdded (added_seen o)
    → AreSpelled (extension_in t o)
added_spelled t (ExtendItem-F.«ExtendItem::Field» f) h =
    (field_spelled (string_bytes f.name.value) (kind_view f.kind) (field_names f h).name, tt)
added_spelled t o h = tt

pub extend_spelled : (e : Extend) → IsNamedExtend (extend_view e)
    → AreSpelled (flat_map (extension_at e.extendee) e.items.items)
extend_spelled e h =
    all_made HasNamedAdded HasName (extension_at e.extendee)
    (λ i. added_spelled e.extendee (out-ExtendItem i)) e.items.items (extend_added e h)

item_extensions : (o : ItemLayer) → IsNamedItem (item_seen o) → AreSpelled (extensions_in o)
item_extensions (MessageItem-F.Extend e) h = extend_spelled e h
item_extensions o h = tt

pub items_extensions : (is : List MessageItem) → Each HasNamedItem is
    → AreSpelled (flat_map extensions_at is)
items_extensions is h =
    all_made HasNamedItem HasName extensions_at (λ i. item_extensions (out-MessageItem i)) is h
