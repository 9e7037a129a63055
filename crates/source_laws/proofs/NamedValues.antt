-- What a tree has for names, in the values that are seen as it, one level at a time.
use Rattle.std.proofs.Common.{◌≡◌, true, List, [], ◌∷◌, map, string_bytes, subst}
use Rattle.protox_laws.proofs.Layers.{added_is, added_seen, item_is, item_seen, kind_is, kind_seen, member_is, member_seen}
use Rattle.protox_locate.proofs.Nests.{extend_is, field_is, group_is, message_is, oneof_is}
use Rattle.protox_tokens.specs.Marks.{Each}
use Rattle.protox_tree.specs.Nest.{added_of, items_of, members_of}
use Rattle.protox_tree.specs.NestView.{added_view, extend_view, field_view, group_view, item_view, kind_view, member_view, message_view, oneof_view}
use Rattle.protox_tree.specs.declared.message.Extend.{Extend}
use Rattle.protox_tree.specs.declared.message.ExtendItem.{ExtendItem}
use Rattle.protox_tree.specs.declared.message.ExtendItem.TheViews.{out-ExtendItem, out-FieldKind, out-MessageItem, out-OneofItem}
use Rattle.protox_tree.specs.declared.message.Field.{Field}
use Rattle.protox_tree.specs.declared.message.FieldKind.{FieldKind}
use Rattle.protox_tree.specs.declared.message.Group.{Group}
use Rattle.protox_tree.specs.declared.message.Message.{Message}
use Rattle.protox_tree.specs.declared.message.MessageItem.{MessageItem}
use Rattle.protox_tree.specs.declared.message.Oneof.{Oneof}
use Rattle.protox_tree.specs.declared.message.OneofItem.{OneofItem}
use Rattle.source_laws.specs.TreeNames.{AreNamedAdded, AreNamedItems, AreNamedMembers, IsNamedAdded, IsNamedExtend, IsNamedField, IsNamedGroup, IsNamedItem, IsNamedKind, IsNamedMember, IsNamedMessage, IsNamedOneof}
use Rattle.text_model.specs.Identifiers.{is_identifier}

-- ---- chains are lists

abbrev pub HasNamedItem : MessageItem → Type 0
HasNamedItem i = IsNamedItem (item_seen (out-MessageItem i))

abbrev pub HasNamedMember : OneofItem → Type 0
HasNamedMember i = IsNamedMember (member_seen (out-OneofItem i))

abbrev pub HasNamedAdded : ExtendItem → Type 0
HasNamedAdded i = IsNamedAdded (added_seen (out-ExtendItem i))

each_item : (is : List MessageItem) → AreNamedItems (items_of (map item_view is))
    → Each HasNamedItem is
each_item [] h = tt
each_item (i ∷ is) h = (subst IsNamedItem (item_is i) h.0, each_item is h.1)

each_member : (is : List OneofItem) → AreNamedMembers (members_of (map member_view is))
    → Each HasNamedMember is
each_member [] h = tt
each_member (i ∷ is) h = (subst IsNamedMember (member_is i) h.0, each_member is h.1)

each_added : (is : List ExtendItem) → AreNamedAdded (added_of (map added_view is))
    → Each HasNamedAdded is
each_added [] h = tt
each_added (i ∷ is) h = (subst IsNamedAdded (added_is i) h.0, each_added is h.1)

-- ---- one level

-- a field of this name, whose kind is as the tree has it
pub record HasNames (f : Field) : Type 0 where
  pub name : is_identifier (string_bytes f.name.value) ≡ true
  pub kind : IsNamedKind (kind_view f.kind)

pub field_names : (f : Field) → IsNamedField (field_view f) → HasNames f
field_names f h =
    let parts = subst IsNamedField (field_is f) h in record { name = parts.0; kind = parts.1 }

pub kind_level : (k : FieldKind) → IsNamedKind (kind_view k)
    → IsNamedKind (kind_seen (out-FieldKind k))
kind_level k h = subst IsNamedKind (kind_is k) h

pub group_items : (g : Group) → IsNamedGroup (group_view g) → Each HasNamedItem g.items.items
group_items g h = each_item g.items.items (subst IsNamedGroup (group_is g) h)

pub oneof_name : (o : Oneof) → IsNamedOneof (oneof_view o)
    → is_identifier (string_bytes o.name.value) ≡ true
oneof_name o h = (subst IsNamedOneof (oneof_is o) h).0

pub oneof_members : (o : Oneof) → IsNamedOneof (oneof_view o) → Each HasNamedMember o.items.items
oneof_members o h = each_member o.items.items (subst IsNamedOneof (oneof_is o) h).1

pub extend_added : (e : Extend) → IsNamedExtend (extend_view e) → Each HasNamedAdded e.items.items
extend_added e h = each_added e.items.items (subst IsNamedExtend (extend_is e) h)

-- a message of this name and these items
pub record HasNamedItems (m : Message) : Type 0 where
  pub name : is_identifier (string_bytes m.name.value) ≡ true
  pub items : Each HasNamedItem m.items.items

pub message_names : (m : Message) → IsNamedMessage (message_view m) → HasNamedItems m
message_names m h =
    let parts = subst IsNamedMessage (message_is m) h in
    record { name = parts.0; items = each_item m.items.items parts.1 }
