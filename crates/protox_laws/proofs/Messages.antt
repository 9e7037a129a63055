-- Types that are the same but for their places have one record.
use Rattle.std.proofs.Common.{◌≡◌, ◌∙◌, ◌+◌, ◌++◌, ℕ, ℤ, true, if◌then◌else◌, List, [], ◌∷◌, Option, Some, None, length, map, flat_map, refl, ap, subst, sym}
use Rattle.descriptor_records.specs.Content.{EnumContent, ExtensionRangeContent, FieldContent, MessageContent, message, MessageContents, no_messages, more_messages, OneofContent, OptionsContent}
use Rattle.descriptor_records.specs.declared.message.ReservedRange.{ReservedRange}
use Rattle.protox_declaration_records.specs.EnumRecords.{ranges_in}
use Rattle.protox_declaration_records.specs.Numbers.{i32_of}
use Rattle.protox_declaration_records.specs.OptionRecords.{options_of}
use Rattle.protox_field_records.specs.Layers.{ItemLayer, MemberLayer}
use Rattle.protox_laws.proofs.Declarations.{same_enum, same_names, same_ranges}
use Rattle.protox_laws.proofs.Fields.{AreAlike, are_alike, same_entry, same_extensions, same_field, same_field_name}
use Rattle.protox_laws.proofs.Layers.{item_seen, member_seen, one_item, one_member, same_members}
use Rattle.protox_laws.proofs.Lists.{flat_maps, seen_maps}
use Rattle.protox_laws.proofs.Options.{same_list, same_statement}
use Rattle.protox_laws.proofs.Types.{declared_view, same_extend_types, same_field_types, same_message_type, seen_items, seen_map}
use Rattle.protox_laws.proofs.Unplaced.{one_extension_ranges, one_presence, one_reserved_ranges}
use Rattle.protox_laws.specs.Unplaced.{a_field, a_map, a_member, a_message, a_oneof, a_reserved, a_word, an_enum, an_extend, an_extensions, an_item, an_option, members_in}
use Rattle.protox_lex.specs.Class.{Text}
use Rattle.protox_lex.specs.declared.span.Span.{Span}
use Rattle.protox_locate.proofs.Nests.{oneof_is}
use Rattle.protox_message_records.specs.MessageRecords.{AreTypes, Declared, IsOfItems, IsType, alone_at, alone_in, end_of, enum_at, enum_in, extension_range_of, extension_ranges_at, extension_ranges_in, extensions_at, extensions_in, field_in, fields_at, fields_from, fields_in, if_alone, member_at, member_in, member_option_at, member_option_in, of_items, of_map, oneof_at, oneof_in, oneof_of, option_at, option_in, own_field, reserved_names_at, reserved_names_in, reserved_ranges_at, reserved_ranges_in, types_at, types_in, types_of_member, types_of_member_item, types_of_oneof}
use Rattle.protox_message_records.specs.SyntheticOneofs.{AreNamedAfter, names_of}
use Rattle.protox_tree.specs.Nest as tree
use Rattle.protox_tree.specs.Nest.{members_of}
use Rattle.protox_tree.specs.NestView.{extend_view, extensions_view, field_view, item_view, items_view, map_view, member_view, message_view, oneof_view}
use Rattle.protox_tree.specs.Tree.{Word}
use Rattle.protox_tree.specs.View.{enum_view, ident_view, option_view, reserved_view}
use Rattle.protox_tree.specs.declared.message.ExtendItem.TheOpen.{MessageItem-F, OneofItem-F}
use Rattle.protox_tree.specs.declared.message.ExtendItem.TheViews.{out-MessageItem, out-OneofItem}
use Rattle.protox_tree.specs.declared.message.Field.{Field}
use Rattle.protox_tree.specs.declared.message.MessageItem.{MessageItem}
use Rattle.protox_tree.specs.declared.message.Oneof.{Oneof}
use Rattle.protox_tree.specs.declared.message.OneofItem.{OneofItem}
use Rattle.protox_tree.specs.declared.range.Extensions.{Extensions}
use Rattle.protox_tree.specs.declared.types.Syntax.{Syntax}

-- ---- oneofs

field_alike : (s : Syntax) (p q : Option ℤ) → p ≡ q → (f g : Field) → AreAlike f g → field_in s p f ≡ field_in s q g
field_alike s p q place f g h =
    let made = same_field f g h in
    let tells = one_presence s f.label g.label h.label in
    λ i. record (made i) { oneof_index = place i; proto3_optional = if tells i then Some true else None }

record SameMember (a b : MemberLayer) : Type 0 where
  fields : (s : Syntax) (place : ℤ) → member_in s place a ≡ member_in s place b
  options : member_option_in a ≡ member_option_in b
  types : map declared_view (types_of_member a) ≡ map declared_view (types_of_member b)

same_member : (a b : MemberLayer) → a_member (member_seen a) ≡ a_member (member_seen b) → SameMember a b
same_member (OneofItem-F.«OneofItem::Field» f) (OneofItem-F.«OneofItem::Field» g) e =
    let seen : a_field (field_view f) ≡ a_field (field_view g) = cc e in
    let h = are_alike f g seen in
    let fields = λ (s : Syntax) (place : ℤ). ap (λ x. x ∷ []) (field_alike s (Some place) (Some place) refl f g h) in
    let types = same_field_types f g h in
    search (fields, types)
same_member (OneofItem-F.«OneofItem::Option» o) (OneofItem-F.«OneofItem::Option» p) e =
    let seen : an_option (option_view o) ≡ an_option (option_view p) = cc e in
    let options = ap (λ x. x ∷ []) (same_statement o p seen) in
    search options
same_member (OneofItem-F.«OneofItem::Empty» a) (OneofItem-F.«OneofItem::Empty» b) e = search
same_member a b e = absurd (cc e)

member_tells : (x y : OneofItem) → a_member (member_view x) ≡ a_member (member_view y) → SameMember (out-OneofItem x) (out-OneofItem y)
member_tells x y e = same_member (out-OneofItem x) (out-OneofItem y) (one_member x y e)

record SameOneof (o p : Oneof) : Type 0 where
  made : oneof_of o ≡ oneof_of p
  fields : (s : Syntax) (place : ℤ) → flat_map (member_at s place) o.items.items ≡ flat_map (member_at s place) p.items.items
  types : map declared_view (types_of_oneof o) ≡ map declared_view (types_of_oneof p)

oneof_alike : (v w : Word) (a b c d : Span) (x y : tree.Members) → a_oneof (tree.oneof v a x c) ≡ a_oneof (tree.oneof w b y d) → (a_word v ≡ a_word w) × (members_in x ≡ members_in y)
oneof_alike v w a b c d x y e = (cc, cc)

oneof_tells : (o p : Oneof) → a_oneof (oneof_view o) ≡ a_oneof (oneof_view p) → SameOneof o p
oneof_tells o p e =
    let parts = oneof_alike (ident_view o.name) (ident_view p.name) o.braces p.braces o.span p.span
    (members_of (map member_view o.items.items)) (members_of (map member_view p.items.items)) (sym (ap a_oneof (oneof_is o)) ∙ e ∙ ap a_oneof (oneof_is p)) in
    let members = same_members (map member_view o.items.items) (map member_view p.items.items) parts.1 in
    let options = flat_maps member_view a_member member_option_at member_option_at (λ x y h. (member_tells x y h).options) o.items.items p.items.items members in
    record {
      made = λ i. record { name = Some ((parts.0 i).text); options = options_of (options i) };
      fields = λ s place. flat_maps member_view a_member (member_at s place) (member_at s place) (λ x y h. (member_tells x y h).fields s place) o.items.items p.items.items members;
      types = seen_maps member_view a_member declared_view types_of_member_item (λ x y h. (member_tells x y h).types) o.items.items p.items.items members;
    }

-- ---- items

same_numbers : (e f : Extensions) → an_extensions (extensions_view e) ≡ an_extensions (extensions_view f) → map (extension_range_of e.options) e.ranges.items ≡ map (extension_range_of f.options) f.ranges.items
same_numbers e f h =
    let options = same_list e.options f.options (ap (λ (v : tree.Extensions). v.options) h) in
    one_extension_ranges e.options e.ranges.items f.ranges.items (ap (λ (v : tree.Extensions). v.ranges) h)
    ∙ (λ i. map (λ r. record { start = i32_of r.start; end = end_of r; options = options i }) f.ranges.items)

-- what an item of a message tells
record SameItem (a b : ItemLayer) : Type 0 where
  fields : (s : Syntax) (next behind : ℕ) → fields_in s next behind a ≡ fields_in s next behind b
  alone : (s : Syntax) → alone_in s a ≡ alone_in s b
  oneofs : oneof_in a ≡ oneof_in b
  extensions : extensions_in a ≡ extensions_in b
  enums : enum_in a ≡ enum_in b
  options : option_in a ≡ option_in b
  ranges : reserved_ranges_in a ≡ reserved_ranges_in b
  names : reserved_names_in a ≡ reserved_names_in b
  numbers : extension_ranges_in a ≡ extension_ranges_in b
  types : map declared_view (types_in a) ≡ map declared_view (types_in b)

same_alone : (s : Syntax) (f g : Field) → AreAlike f g → if_alone s f ≡ if_alone s g
same_alone s f g h =
    let tells = one_presence s f.label g.label h.label in
    let name = same_field_name f g h in
    λ i. if tells i then name i ∷ [] else []

same_own : (s : Syntax) (place : ℤ) (f g : Field) → AreAlike f g → own_field s place f ≡ own_field s place g
same_own s place f g h =
    let tells = one_presence s f.label g.label h.label in
    field_alike s _ _ (λ i. if tells i then Some place else None) f g h

same_item : (a b : ItemLayer) → an_item (item_seen a) ≡ an_item (item_seen b) → SameItem a b
same_item (MessageItem-F.«MessageItem::Field» f) (MessageItem-F.«MessageItem::Field» g) e =
    let seen : a_field (field_view f) ≡ a_field (field_view g) = cc e in
    let h = are_alike f g seen in
    let fields = λ (s : Syntax) (place : ℤ). ap (λ x. x ∷ []) (same_own s place f g h) in
    let alone = λ (s : Syntax). same_alone s f g h in
    let types = same_field_types f g h in
    search (fields, alone, types)
same_item (MessageItem-F.Oneof o) (MessageItem-F.Oneof p) e =
    let seen : a_oneof (oneof_view o) ≡ a_oneof (oneof_view p) = cc e in
    let h = oneof_tells o p seen in
    let fields = h.fields in
    let oneofs = ap (λ x. x ∷ []) h.made in
    let types = h.types in
    search (fields, oneofs, types)
same_item (MessageItem-F.Message m) (MessageItem-F.Message n) e =
    let seen : a_message (message_view m) ≡ a_message (message_view n) = cc e in
    let types = same_message_type m n seen in
    search types
same_item (MessageItem-F.Enum x) (MessageItem-F.Enum y) e =
    let seen : an_enum (enum_view x) ≡ an_enum (enum_view y) = cc e in
    let enums = ap (λ v. v ∷ []) (same_enum x y seen) in
    search enums
same_item (MessageItem-F.Extend x) (MessageItem-F.Extend y) e =
    let seen : an_extend (extend_view x) ≡ an_extend (extend_view y) = cc e in
    let extensions = same_extensions x y seen in
    let types = same_extend_types x y seen in
    search (extensions, types)
same_item (MessageItem-F.Extensions x) (MessageItem-F.Extensions y) e =
    let seen : an_extensions (extensions_view x) ≡ an_extensions (extensions_view y) = cc e in
    let numbers = same_numbers x y seen in
    search numbers
same_item (MessageItem-F.Reserved x) (MessageItem-F.Reserved y) e =
    let seen : a_reserved (reserved_view x) ≡ a_reserved (reserved_view y) = cc e in
    let ranges = one_reserved_ranges (ranges_in x.items) (ranges_in y.items) (same_ranges x y seen) in
    let names = same_names x y seen in
    search (ranges, names)
same_item (MessageItem-F.«MessageItem::Option» o) (MessageItem-F.«MessageItem::Option» p) e =
    let seen : an_option (option_view o) ≡ an_option (option_view p) = cc e in
    let options = ap (λ x. x ∷ []) (same_statement o p seen) in
    search options
same_item (MessageItem-F.«MessageItem::Empty» a) (MessageItem-F.«MessageItem::Empty» b) e = search
same_item a b e = absurd (cc e)

item_tells : (x y : MessageItem) → an_item (item_view x) ≡ an_item (item_view y) → SameItem (out-MessageItem x) (out-MessageItem y)
item_tells x y e = same_item (out-MessageItem x) (out-MessageItem y) (one_item x y e)

-- ---- messages

same_fields : (s : Syntax) (next behind : ℕ) (xs ys : List MessageItem) → map an_item (items_view xs) ≡ map an_item (items_view ys) → fields_from s next behind xs ≡ fields_from s next behind ys
same_fields s next behind [] [] e = refl
same_fields s next behind (x ∷ xs) (y ∷ ys) e =
    let first : an_item (item_view x) ≡ an_item (item_view y) = cc in
    let others : map an_item (items_view xs) ≡ map an_item (items_view ys) = cc in
    let h = item_tells x y first in
    let here : fields_from s next behind (x ∷ xs) ≡ fields_at s next behind y ++ fields_from s (next + length (oneof_at y)) (behind + length (alone_at s y)) xs =
    λ i. h.fields s next behind i ++ fields_from s (next + length (h.oneofs i)) (behind + length (h.alone s i)) xs in
    here ∙ ap (λ fs. fields_at s next behind y ++ fs) (same_fields s (next + length (oneof_at y)) (behind + length (alone_at s y)) xs ys others)
same_fields s next behind xs ys e = absurd (cc)

-- all items of one message and of another that is the same but for its places
module _ (xs ys : List MessageItem) (e : map an_item (items_view xs) ≡ map an_item (items_view ys)) where
  same_oneofs : flat_map oneof_at xs ≡ flat_map oneof_at ys
  same_oneofs = flat_maps item_view an_item oneof_at oneof_at (λ x y h. (item_tells x y h).oneofs) xs ys e

  pub same_types : map declared_view (flat_map types_at xs) ≡ map declared_view (flat_map types_at ys)
  same_types = seen_maps item_view an_item declared_view types_at (λ x y h. (item_tells x y h).types) xs ys e

  own_carried : (s : Syntax) (n m : Text) → n ≡ m → (given : Option Text) (fields extensions : List FieldContent) (nested : MessageContents)
      (enums : List EnumContent) (ranges : List ExtensionRangeContent) (oneofs : List OneofContent) (options : Option OptionsContent)
      (reserved : List ReservedRange) (names : List Text) → IsOfItems s n xs given fields extensions nested enums ranges oneofs options reserved names
      → IsOfItems s m ys given fields extensions nested enums ranges oneofs options reserved names
  own_carried s n m name given fields extensions nested enums ranges oneofs options reserved names h = record {
    named = h.named ∙ ap Some name;
    fields_are = h.fields_are ∙ ap (λ os. fields_from s 0 (length os) xs) same_oneofs ∙ same_fields s 0 (length (flat_map oneof_at ys)) xs ys e;
    extensions_are = h.extensions_are ∙ flat_maps item_view an_item extensions_at extensions_at (λ x y k. (item_tells x y k).extensions) xs ys e;
    enums_are = h.enums_are ∙ flat_maps item_view an_item enum_at enum_at (λ x y k. (item_tells x y k).enums) xs ys e;
    ranges_are = h.ranges_are ∙ flat_maps item_view an_item extension_ranges_at extension_ranges_at (λ x y k. (item_tells x y k).numbers) xs ys e;
    oneofs_are = (
      h.oneofs_are.0,
      h.oneofs_are.1 ∙ ap (λ os. os ++ h.oneofs_are.0) same_oneofs,
      subst (λ os. AreNamedAfter (names_of fields extensions nested enums os) (flat_map (alone_at s) ys) h.oneofs_are.0) same_oneofs
          (subst (λ alone. AreNamedAfter (names_of fields extensions nested enums (flat_map oneof_at xs)) alone h.oneofs_are.0)
          (flat_maps item_view an_item (alone_at s) (alone_at s) (λ x y k. (item_tells x y k).alone s) xs ys e) h.oneofs_are.2),
    );
    options_are = h.options_are ∙ ap options_of (flat_maps item_view an_item option_at option_at (λ x y k. (item_tells x y k).options) xs ys e);
    reserved_are = h.reserved_are ∙ flat_maps item_view an_item reserved_ranges_at reserved_ranges_at (λ x y k. (item_tells x y k).ranges) xs ys e;
    names_are = h.names_are ∙ flat_maps item_view an_item reserved_names_at reserved_names_at (λ x y k. (item_tells x y k).names) xs ys e;
  }

items_alike : (n m : Text) (xs ys : List tree.Item) → seen_items n xs ≡ seen_items m ys → (n ≡ m) × (xs ≡ ys)
items_alike n m xs ys e = (cc, cc)

map_alike : (n m : Text) (a b : tree.MapType) → seen_map n a ≡ seen_map m b → (n ≡ m) × (a ≡ b)
map_alike n m a b e = (cc, cc)

mutual
  pub type_carried : (s : Syntax) (t u : Declared) (m : MessageContent) → declared_view t ≡ declared_view u → IsType s t m → IsType s u m
  type_carried s (of_items n xs) (of_items k ys) (message given fields extensions nested enums ranges oneofs options reserved names) e h =
      let seen = items_alike n k (map an_item (items_view xs)) (map an_item (items_view ys)) e in (
        own_carried xs ys seen.1 s n k seen.0 given fields extensions nested enums ranges oneofs options reserved names h.0,
        types_carried s (flat_map types_at xs) (flat_map types_at ys) nested (same_types xs ys seen.1) h.1,
      )
  type_carried s (of_map n a) (of_map k b) (message given fields extensions nested enums ranges oneofs options reserved names) e h =
      let seen = map_alike n k (a_map (map_view a)) (a_map (map_view b)) e in
      h ∙ same_entry n k a b seen.0 seen.1
  type_carried s (of_items n xs) (of_map k b) m e h = absurd (cc e)
  type_carried s (of_map n a) (of_items k ys) m e h = absurd (cc e)

  pub types_carried : (s : Syntax) (ts us : List Declared) (ms : MessageContents) → map declared_view ts ≡ map declared_view us → AreTypes s ts ms → AreTypes s us ms
  types_carried s [] [] ms e h = h
  types_carried s [] (u ∷ us) ms e h = absurd (cc e)
  types_carried s (t ∷ ts) [] ms e h = absurd (cc e)
  types_carried s (t ∷ ts) (u ∷ us) no_messages e h = absurd h
  types_carried s (t ∷ ts) (u ∷ us) (more_messages m ms) e h =
      let first : declared_view t ≡ declared_view u = cc e in
      let others : map declared_view ts ≡ map declared_view us = cc e in
      (type_carried s t u m first h.0, types_carried s ts us ms others h.1)
