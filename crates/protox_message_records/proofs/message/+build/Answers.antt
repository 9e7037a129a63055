use Rattle.std.proofs.Common.{◌≡◌, ◌∙◌, ◌∷◌, [], map, refl, rules, string_bytes, take, ap, sym, subst}
use Rattle.std.specs.List.{flat_map}
use Rattle.descriptor_records.specs.Content.{message_view, messages_of}
use Rattle.protox_message_records.proofs.Types.{adds_behind, adds_item, adds_pushed, passes_item}
use Rattle.protox_field_records.proofs.Loops.{next}
use Rattle.protox_field_records.specs.Layers.{AddedLayer, MemberLayer}
use Rattle.protox_field_records.specs.MapEntries.{entry_of}
use Rattle.protox_message_records.specs.MessageRecords.{AreTypes, IsType, of_items, of_map, type_of_message, types_at, types_of_added, types_of_added_item, types_of_field, types_of_member, types_of_member_item}
use Rattle.protox_tree.specs.declared.message.ExtendItem.{ExtendItem, the_lemmas as extend_lemmas}
use Rattle.protox_tree.specs.declared.message.ExtendItem.TheOpen.{ExtendItem-F, OneofItem-F}
use Rattle.protox_tree.specs.declared.message.ExtendItem.TheVariants as added
use Rattle.protox_tree.specs.declared.message.ExtendItem.TheViews.{out-ExtendItem, out-OneofItem, roll-ExtendItem, roll-OneofItem, roll-out-ExtendItem, roll-out-OneofItem}
use Rattle.protox_tree.specs.declared.message.Field.{Field}
use Rattle.protox_tree.specs.declared.message.FieldKind as kinds
use Rattle.protox_tree.specs.declared.message.MessageItem as items
use Rattle.protox_tree.specs.declared.message.OneofItem.{OneofItem, the_lemmas as member_lemmas}
use Rattle.protox_tree.specs.declared.message.OneofItem.TheVariants as members
use Rattle.protox_message_records.proofs.message.+build.Goals as goal

pub add_type-returns-in_ok-push-in-Group : goal.add_type-returns-in_ok-push-in-Group
add_type-returns-in_ok-push-in-Group t c =
    let s = c.args.syntax in
    let field = c.args.field.now in
    let group = c.in-Group.group in
    let made = c.in_ok-type_record-in-Group.field-0 in
    let declared = of_items (string_bytes field.name.value) group.items.items in
    let one : types_of_field field ≡ declared ∷ [] = search (rules, kinds.the_lemmas) in
    adds_pushed s declared (types_of_field field) c.args.types.now.items c.push.new.self.items made c.in_ok-push-in-Group.ensures.items one
    (subst (λ n. IsType s (of_items n group.items.items) (message_view made)) c.as_str-name.ensures.value c.in_ok-type_record-in-Group.ensures)

pub add_type-returns-in_ok-push-in-Map : goal.add_type-returns-in_ok-push-in-Map
add_type-returns-in_ok-push-in-Map t c =
    let s = c.args.syntax in
    let field = c.args.field.now in
    let map = c.in-Map.map in
    let made = c.in_ok-entry_record-in-Map.field-0 in
    let name = string_bytes field.name.value in
    let one : types_of_field field ≡ of_map name map ∷ [] = search (rules, kinds.the_lemmas) in
    let entry : message_view made ≡ entry_of name map = c.in_ok-entry_record-in-Map.ensures ∙ ap (λ n. entry_of n map) c.as_str-name.ensures.value in
    adds_pushed s (of_map name map) (types_of_field field) c.args.types.now.items c.push-in-Map.new.self.items made c.in_ok-push-in-Map.ensures.items one (subst (IsType s (of_map name map)) (sym entry) refl)

pub add_types-returns-in_ok-push-in-Message : goal.add_types-returns-in_ok-push-in-Message
add_types-returns-in_ok-push-in-Message t c =
    let x = c.args.item.now in
    let message = c.in-Message.message in
    let made = c.in_ok-message_record-in-Message.field-0 in
    let one : types_at x ≡ type_of_message message ∷ [] = search (rules, items.the_lemmas) in
    adds_pushed c.args.syntax (type_of_message message) (types_at x) c.args.types.now.items c.push.new.self.items made c.in_ok-push-in-Message.ensures.items one c.in_ok-message_record-in-Message.ensures

pub nested_types-each-preserved : goal.nested_types-each-preserved
nested_types-each-preserved t c =
    let s = c.args.syntax in
    let xs = c.deref-item-items.result.now in
    let i = c.each.item-index in
    subst (λ ts. AreTypes s ts (messages_of (map message_view c.add_types.new.types.items))) (sym (next types_at xs i c.item-item.result c.each-test.true c.item-item.is))
    (adds_behind s (flat_map types_at (take i xs)) _ _ _ c.each.invariant c.in_ok-add_types.ensures)

-- a member of a oneof that is no field declares no type
no_member : (x : OneofItem) (y : MemberLayer) → out-OneofItem x ≡ y → ((f : Field) → x ≡ members.Field f → ⊥) → types_of_member y ≡ []
no_member x (OneofItem-F.«OneofItem::Field» f) is h = absurd (h f (sym (roll-out-OneofItem x) ∙ ap roll-OneofItem is ∙ members.rolls-Field f))
no_member x (OneofItem-F.«OneofItem::Empty» span) is h = refl
no_member x (OneofItem-F.«OneofItem::Option» o) is h = refl

pub types_of_oneof-each-preserved-in_default : goal.types_of_oneof-each-preserved-in_default
types_of_oneof-each-preserved-in_default t c =
    let x = c.item-item.result in
    let none : types_of_member_item x ≡ [] = no_member x (out-OneofItem x) refl c.in_default.not-Field in
    passes_item c.args.syntax types_of_member_item c.deref-item-items.result.now c.each.item-index x c.each-test.true c.item-item.is none _ _ c.each.invariant

pub types_of_oneof-each-preserved : goal.types_of_oneof-each-preserved
types_of_oneof-each-preserved t c =
    let x = c.item-item.result in
    let one : types_of_member_item x ≡ types_of_field c.in-Field.field = search (rules, member_lemmas) in
    adds_item c.args.syntax types_of_member_item c.deref-item-items.result.now c.each.item-index x (types_of_field c.in-Field.field) c.each-test.true c.item-item.is one _ _ _ c.each.invariant c.in_ok-add_type.ensures

-- the same of what stands in an `extend` statement
no_added : (x : ExtendItem) (y : AddedLayer) → out-ExtendItem x ≡ y → ((f : Field) → x ≡ added.Field f → ⊥) → types_of_added y ≡ []
no_added x (ExtendItem-F.«ExtendItem::Field» f) is h = absurd (h f (sym (roll-out-ExtendItem x) ∙ ap roll-ExtendItem is ∙ added.rolls-Field f))
no_added x (ExtendItem-F.«ExtendItem::Empty» span) is h = refl

pub types_of_extend-each-preserved-in_default : goal.types_of_extend-each-preserved-in_default
types_of_extend-each-preserved-in_default t c =
    let x = c.item-item.result in
    let none : types_of_added_item x ≡ [] = no_added x (out-ExtendItem x) refl c.in_default.not-Field in
    passes_item c.args.syntax types_of_added_item c.deref-item-items.result.now c.each.item-index x c.each-test.true c.item-item.is none _ _ c.each.invariant

pub types_of_extend-each-preserved : goal.types_of_extend-each-preserved
types_of_extend-each-preserved t c =
    let x = c.item-item.result in
    let one : types_of_added_item x ≡ types_of_field c.in-Field.field = search (rules, extend_lemmas) in
    adds_item c.args.syntax types_of_added_item c.deref-item-items.result.now c.each.item-index x (types_of_field c.in-Field.field) c.each-test.true c.item-item.is one _ _ _ c.each.invariant c.in_ok-add_type.ensures
