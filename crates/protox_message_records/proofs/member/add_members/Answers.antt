use Rattle.std.proofs.Common.{◌≡◌, ◌∷◌, [], ◌++◌, ℤ, to_z, of_z, w32, Some, map, take, rules, refl, ap, sym, ◌∙◌, append_assoc}
use Rattle.std.proofs.lemmas.List.{append-nil, map_push}
use Rattle.std.specs.List.{flat_map}
use Rattle.descriptor_records.specs.Content.{field_view}
use Rattle.protox_field_records.proofs.Loops.{next}
use Rattle.protox_field_records.specs.Layers.{MemberLayer}
use Rattle.protox_message_records.specs.MessageRecords.{field_in, member_at, member_in}
use Rattle.protox_tree.specs.declared.message.ExtendItem.TheOpen.{OneofItem-F}
use Rattle.protox_tree.specs.declared.message.ExtendItem.TheViews.{out-OneofItem, roll-OneofItem, roll-out-OneofItem}
use Rattle.protox_tree.specs.declared.message.Field.{Field}
use Rattle.protox_tree.specs.declared.message.OneofItem.{OneofItem, the_lemmas}
use Rattle.protox_tree.specs.declared.message.OneofItem.TheVariants as variants
use Rattle.protox_tree.specs.declared.types.Syntax.{Syntax}
use Rattle.protox_message_records.proofs.member.add_members.Goals as goal

-- a member that is no field has none
no_field : (s : Syntax) (place : ℤ) (x : OneofItem) (y : MemberLayer) → out-OneofItem x ≡ y → ((f : Field) → x ≡ variants.Field f → ⊥) → member_in s place y ≡ []
no_field s place x (OneofItem-F.«OneofItem::Field» f) is h = absurd (h f (sym (roll-out-OneofItem x) ∙ ap roll-OneofItem is ∙ variants.rolls-Field f))
no_field s place x (OneofItem-F.«OneofItem::Empty» span) is h = refl
no_field s place x (OneofItem-F.«OneofItem::Option» o) is h = refl

pub each-preserved-in_default : goal.each-preserved-in_default
each-preserved-in_default c =
    let place : ℤ = to_z w32 (of_z w32 c.args.place) in
    let f = member_at c.args.syntax place in
    let xs = c.deref-item-items.result.now in
    let i = c.each.item-index in
    let x = c.item-item.result in
    let initial = map field_view c.args.fields.now.items in
    let none : f x ≡ [] = no_field c.args.syntax place x (out-OneofItem x) refl c.in_default.not-Field in
    let more = next f xs i x c.each-test.true c.item-item.is ∙ ap (λ ys. flat_map f (take i xs) ++ ys) none ∙ append-nil (flat_map f (take i xs)) in
    c.each.invariant ∙ ap (λ ys. initial ++ ys) (sym more)

pub each-preserved : goal.each-preserved
each-preserved c =
    let place : ℤ = to_z w32 (of_z w32 c.args.place) in
    let f = member_at c.args.syntax place in
    let xs = c.deref-item-items.result.now in
    let i = c.each.item-index in
    let x = c.item-item.result in
    let made = c.in_ok-field_in.field-0 in
    let initial = map field_view c.args.fields.now.items in
    let one : f x ≡ field_in c.args.syntax (Some place) c.in-Field.field ∷ [] = search (rules, the_lemmas) in
    let more = next f xs i x c.each-test.true c.item-item.is ∙ ap (λ ys. flat_map f (take i xs) ++ ys) (one ∙ ap (λ o. o ∷ []) (sym c.in_ok-field_in.ensures)) in
    ap (map field_view) c.in_ok-push.ensures.items ∙ map_push field_view c.each.fields.items made
    ∙ ap (λ ys. ys ++ field_view made ∷ []) c.each.invariant ∙ append_assoc initial (flat_map f (take i xs)) (field_view made ∷ [])
    ∙ ap (λ ys. initial ++ ys) (sym more)
