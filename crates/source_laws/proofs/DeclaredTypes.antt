-- The types that messages declare have identifiers for names, and their records stand there.
use Rattle.std.proofs.Common.{◌≡◌, ◌∙◌, ◌++◌, ◌⊎◌, true, List, [], ◌∷◌, Some, inl, inr, flat_map, string_bytes, refl, ap, subst, sym}
use Rattle.std.specs.List.{AllByRecursion}
use Rattle.descriptor_records.specs.Content.{message, MessageContents, no_messages, more_messages}
use Rattle.protox_field_records.specs.Layers.{AddedLayer, ItemLayer, KindLayer, MemberLayer}
use Rattle.protox_laws.proofs.Layers.{added_seen, item_seen, kind_is, kind_seen, member_seen}
use Rattle.protox_lex.specs.Class.{Text}
use Rattle.protox_message_records.specs.MessageRecords.{AreTypes, Declared, of_items, of_map, type_of_message, types_at, types_in, types_of_added, types_of_added_item, types_of_extend, types_of_field, types_of_kind, types_of_member, types_of_member_item}
use Rattle.protox_tokens.specs.Marks.{Each}
use Rattle.protox_tree.specs.Nest as tree
use Rattle.protox_tree.specs.Nest.{group, map_kind, normal}
use Rattle.protox_tree.specs.NestView.{extend_view, field_view, kind_view, message_view}
use Rattle.protox_tree.specs.View.{ty_view}
use Rattle.protox_tree.specs.declared.message.Extend.{Extend}
use Rattle.protox_tree.specs.declared.message.ExtendItem.TheOpen.{ExtendItem-F, FieldKind-F, MessageItem-F, OneofItem-F}
use Rattle.protox_tree.specs.declared.message.ExtendItem.TheViews.{out-ExtendItem, out-FieldKind, out-MessageItem, out-OneofItem}
use Rattle.protox_tree.specs.declared.message.Field.{Field}
use Rattle.protox_tree.specs.declared.message.Message.{Message}
use Rattle.protox_tree.specs.declared.message.MessageItem.{MessageItem}
use Rattle.protox_tree.specs.declared.types.Syntax.{Syntax}
use Rattle.source_laws.proofs.Lists.{all_made}
use Rattle.source_laws.specs.TreeNames.{IsNamedAdded, IsNamedExtend, IsNamedField, IsNamedItem, IsNamedKind, IsNamedMember, IsNamedMessage, IsNoGroup}
use Rattle.source_laws.proofs.NamedValues.{HasNamedAdded, HasNamedItem, HasNamedMember, extend_added, field_names, group_items, kind_level, message_names, oneof_members}
use Rattle.source_records.specs.SourceNames.{Declares}
use Rattle.text_model.specs.Identifiers.{is_identifier}

-- ---- their names

abbrev pub IsNamedType : Declared → Type 0
IsNamedType (of_items name items) = (is_identifier name ≡ true) × Each HasNamedItem items
IsNamedType (of_map name m) = (is_identifier name ≡ true)
    × (IsNoGroup (ty_view m.key) × IsNoGroup (ty_view m.value))

abbrev pub AreNamedTypes : List Declared → Type 0
AreNamedTypes ts = AllByRecursion IsNamedType ts

kind_types : (name : Text) → is_identifier name ≡ true → (k : KindLayer) → IsNamedKind (kind_seen k)
    → AreNamedTypes (types_of_kind name k)
kind_types name named (FieldKind-F.Normal t) h = tt
kind_types name named (FieldKind-F.Group g) h = ((named, group_items g h), tt)
kind_types name named (FieldKind-F.Map m) h = ((named, h), tt)

field_types : (f : Field) → IsNamedField (field_view f) → AreNamedTypes (types_of_field f)
field_types f h =
    let names = field_names f h in
    kind_types (string_bytes f.name.value) names.name (out-FieldKind f.kind)
    (kind_level f.kind names.kind)

member_types : (o : MemberLayer) → IsNamedMember (member_seen o) → AreNamedTypes (types_of_member o)
member_types (OneofItem-F.«OneofItem::Field» f) h = field_types f h
member_types o h = tt

added_types : (o : AddedLayer) → IsNamedAdded (added_seen o) → AreNamedTypes (types_of_added o)
added_types (ExtendItem-F.«ExtendItem::Field» f) h = field_types f h
added_types o h = tt

pub extend_types : (e : Extend) → IsNamedExtend (extend_view e) → AreNamedTypes (types_of_extend e)
extend_types e h =
    all_made HasNamedAdded IsNamedType types_of_added_item (λ i. added_types (out-ExtendItem i))
    e.items.items (extend_added e h)

pub message_type : (m : Message) → IsNamedMessage (message_view m) → IsNamedType (type_of_message m)
message_type m h = let names = message_names m h in (names.name, names.items)

item_types : (o : ItemLayer) → IsNamedItem (item_seen o) → AreNamedTypes (types_in o)
item_types (MessageItem-F.«MessageItem::Field» f) h = field_types f h
item_types (MessageItem-F.Oneof o) h =
    all_made HasNamedMember IsNamedType types_of_member_item (λ i. member_types (out-OneofItem i))
    o.items.items (oneof_members o h)
item_types (MessageItem-F.Message m) h = (message_type m h, tt)
item_types (MessageItem-F.Extend e) h = extend_types e h
item_types o h = tt

pub items_types : (is : List MessageItem) → Each HasNamedItem is
    → AreNamedTypes (flat_map types_at is)
items_types is h =
    all_made HasNamedItem IsNamedType types_at (λ i. item_types (out-MessageItem i)) is h

-- ---- their records

-- a type of this name and with items is among these
abbrev pub Has : List Declared → Text → Type 0
Has [] name = ⊥
Has (of_items given items ∷ ts) name = (given ≡ name) ⊎ Has ts name
Has (of_map given m ∷ ts) name = Has ts name

pub has_left : (ts us : List Declared) (name : Text) → Has ts name → Has (ts ++ us) name
has_left [] us name h = absurd h
has_left (of_items given items ∷ ts) us name (inl e) = inl e
has_left (of_items given items ∷ ts) us name (inr h) = inr (has_left ts us name h)
has_left (of_map given m ∷ ts) us name h = has_left ts us name h

pub has_right : (ts us : List Declared) (name : Text) → Has us name → Has (ts ++ us) name
has_right [] us name h = h
has_right (of_items given items ∷ ts) us name h = inr (has_right ts us name h)
has_right (of_map given m ∷ ts) us name h = has_right ts us name h

-- it has a record among theirs
pub declares : (s : Syntax) (ts : List Declared) (ms : MessageContents) → AreTypes s ts ms
    → (name : Text) → Has ts name → Declares ms name
declares s [] ms all name h = absurd h
declares s (t ∷ ts) no_messages all name h = absurd all
declares s (of_items given items ∷ ts)
    (more_messages (message called fields extensions nested enums ranges oneofs options reserved
    names) ms) all name (inl e) =
    inl (all.0.0.named ∙ ap Some e)
declares s (of_items given items ∷ ts)
    (more_messages (message called fields extensions nested enums ranges oneofs options reserved
    names) ms) all name (inr h) =
    inr (declares s ts ms all.1 name h)
declares s (of_map given m ∷ ts)
    (more_messages (message called fields extensions nested enums ranges oneofs options reserved
    names) ms) all name h =
    inr (declares s ts ms all.1 name h)

-- of a group the type is among them
abbrev pub IsThere : (Text → Type 0) → Text → tree.Kind → Type 0
IsThere There name (normal ty) = Unit {0}
IsThere There name (group g) = There name
IsThere There name (map_kind m) = Unit {0}

kind_there : (There : Text → Type 0) (name : Text) (k : KindLayer)
    → ((called : Text) → Has (types_of_kind name k) called → There called)
    → IsThere There name (kind_seen k)
kind_there There name (FieldKind-F.Normal t) h = tt
kind_there There name (FieldKind-F.Group g) h = h name (inl refl)
kind_there There name (FieldKind-F.Map m) h = tt

pub field_there : (There : Text → Type 0) (f : Field)
    → ((called : Text) → Has (types_of_field f) called → There called)
    → IsThere There (string_bytes f.name.value) (kind_view f.kind)
field_there There f h =
    let name = string_bytes f.name.value in
    subst (IsThere There name) (sym (kind_is f.kind))
    (kind_there There name (out-FieldKind f.kind) h)
