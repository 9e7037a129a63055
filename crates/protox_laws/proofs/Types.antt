-- What is declared of types, as the tree has it without its places.
use Rattle.std.proofs.Common.{◌≡◌, ◌∙◌, List, [], ◌∷◌, map, string_bytes, refl, ap, sym}
use Rattle.protox_field_records.specs.Layers.{AddedLayer, KindLayer}
use Rattle.protox_laws.proofs.Fields.{AreAlike, are_alike, same_extend}
use Rattle.protox_laws.proofs.Layers.{added_seen, kind_seen, one_added, one_kind, same_items}
use Rattle.protox_laws.proofs.Lists.{seen_maps}
use Rattle.protox_laws.specs.Unplaced.{a_field, a_kind, a_map, a_message, a_word, an_added, an_extend, an_item, group_in, items_in}
use Rattle.protox_lex.specs.Class.{Text}
use Rattle.protox_lex.specs.declared.span.Span.{Span}
use Rattle.protox_locate.proofs.Nests.{group_is, message_is}
use Rattle.protox_message_records.specs.MessageRecords.{Declared, of_items, of_map, type_of_message, types_of_added, types_of_added_item, types_of_extend, types_of_field, types_of_kind}
use Rattle.protox_tree.specs.Nest as tree
use Rattle.protox_tree.specs.Nest.{items_of}
use Rattle.protox_tree.specs.NestView.{added_view, extend_view, field_view, group_view, items_view, map_view, message_view}
use Rattle.protox_tree.specs.Tree.{Word}
use Rattle.protox_tree.specs.View.{ident_view}
use Rattle.protox_tree.specs.declared.message.Extend.{Extend}
use Rattle.protox_tree.specs.declared.message.ExtendItem.TheOpen.{ExtendItem-F, FieldKind-F}
use Rattle.protox_tree.specs.declared.message.ExtendItem.TheViews.{out-ExtendItem, out-FieldKind}
use Rattle.protox_tree.specs.declared.message.Field.{Field}
use Rattle.protox_tree.specs.declared.message.Group.{Group}
use Rattle.protox_tree.specs.declared.message.Message.{Message}

pub data Seen : Type 0 where
  seen_items : Text → List tree.Item → Seen
  seen_map : Text → tree.MapType → Seen

abbrev pub declared_view : Declared → Seen
declared_view (of_items name items) = seen_items name (map an_item (items_view items))
declared_view (of_map name m) = seen_map name (a_map (map_view m))

group_alike : (a b c d : Span) (x y : tree.Items) → group_in (tree.a_group a b x) ≡ group_in (tree.a_group c d y) → items_in x ≡ items_in y
group_alike a b c d x y e = cc

same_group : (g h : Group) → group_in (group_view g) ≡ group_in (group_view h) → map an_item (items_view g.items.items) ≡ map an_item (items_view h.items.items)
same_group g h e =
    same_items (items_view g.items.items) (items_view h.items.items)
    (group_alike g.word g.braces h.word h.braces (items_of (items_view g.items.items)) (items_of (items_view h.items.items)) (sym (ap group_in (group_is g)) ∙ e ∙ ap group_in (group_is h)))

same_kind_types : (n m : Text) → n ≡ m → (a b : KindLayer) → a_kind (kind_seen a) ≡ a_kind (kind_seen b) → map declared_view (types_of_kind n a) ≡ map declared_view (types_of_kind m b)
same_kind_types n m name (FieldKind-F.Normal t) (FieldKind-F.Normal u) e = refl
same_kind_types n m name (FieldKind-F.Group g) (FieldKind-F.Group h) e =
    let seen : group_in (group_view g) ≡ group_in (group_view h) = cc e in
    let items = same_group g h seen in
    λ i. seen_items (name i) (items i) ∷ []
same_kind_types n m name (FieldKind-F.Map a) (FieldKind-F.Map b) e =
    let seen : a_map (map_view a) ≡ a_map (map_view b) = cc e in
    λ i. seen_map (name i) (seen i) ∷ []
same_kind_types n m name a b e = absurd (cc e)

pub same_field_types : (f g : Field) → AreAlike f g → map declared_view (types_of_field f) ≡ map declared_view (types_of_field g)
same_field_types f g h =
    same_kind_types (string_bytes f.name.value) (string_bytes g.name.value) (ap (λ (w : Word). w.text) h.name)
    (out-FieldKind f.kind) (out-FieldKind g.kind) (one_kind f.kind g.kind h.kind)

same_added_types : (a b : AddedLayer) → an_added (added_seen a) ≡ an_added (added_seen b) → map declared_view (types_of_added a) ≡ map declared_view (types_of_added b)
same_added_types (ExtendItem-F.«ExtendItem::Field» f) (ExtendItem-F.«ExtendItem::Field» g) e =
    let seen : a_field (field_view f) ≡ a_field (field_view g) = cc e in
    same_field_types f g (are_alike f g seen)
same_added_types (ExtendItem-F.«ExtendItem::Empty» a) (ExtendItem-F.«ExtendItem::Empty» b) e = refl
same_added_types a b e = absurd (cc e)

pub same_extend_types : (a b : Extend) → an_extend (extend_view a) ≡ an_extend (extend_view b) → map declared_view (types_of_extend a) ≡ map declared_view (types_of_extend b)
same_extend_types a b e =
    seen_maps added_view an_added declared_view types_of_added_item
    (λ x y h. same_added_types (out-ExtendItem x) (out-ExtendItem y) (one_added x y h))
    a.items.items b.items.items (same_extend a b e).1

message_alike : (v w : Word) (a b c d : Span) (x y : tree.Items) → a_message (tree.message v a x c) ≡ a_message (tree.message w b y d) → (a_word v ≡ a_word w) × (items_in x ≡ items_in y)
message_alike v w a b c d x y e = (cc, cc)

pub same_message_type : (m n : Message) → a_message (message_view m) ≡ a_message (message_view n) → map declared_view (type_of_message m ∷ []) ≡ map declared_view (type_of_message n ∷ [])
same_message_type m n e =
    let parts = message_alike (ident_view m.name) (ident_view n.name) m.braces n.braces m.span n.span (items_of (items_view m.items.items)) (items_of (items_view n.items.items))
    (sym (ap a_message (message_is m)) ∙ e ∙ ap a_message (message_is n)) in
    let items = same_items (items_view m.items.items) (items_view n.items.items) parts.1 in
    λ i. seen_items ((parts.0 i).text) (items i) ∷ []
