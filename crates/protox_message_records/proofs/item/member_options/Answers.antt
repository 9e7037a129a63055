use Rattle.std.proofs.Common.{◌≡◌, ◌∷◌, [], map, rules, refl, ap, sym, ◌∙◌}
use Rattle.descriptor_records.specs.Content.{option_view}
use Rattle.protox_declaration_records.specs.OptionRecords.{option_of}
use Rattle.protox_field_records.proofs.Loops.{passed, taken}
use Rattle.protox_field_records.specs.Layers.{MemberLayer}
use Rattle.protox_message_records.specs.MessageRecords.{member_option_at, member_option_in}
use Rattle.protox_tree.specs.declared.message.ExtendItem.TheOpen.{OneofItem-F}
use Rattle.protox_tree.specs.declared.message.ExtendItem.TheViews.{out-OneofItem, roll-OneofItem, roll-out-OneofItem}
use Rattle.protox_tree.specs.declared.message.OneofItem.{OneofItem, the_lemmas}
use Rattle.protox_tree.specs.declared.message.OneofItem.TheVariants as variants
use Rattle.protox_tree.specs.declared.option.OptionStatement.{OptionStatement}
use Rattle.protox_message_records.proofs.item.member_options.Goals as goal

-- a member that is no option has none
no_option : (x : OneofItem) (y : MemberLayer) → out-OneofItem x ≡ y → ((o : OptionStatement) → x ≡ variants.Option o → ⊥) → member_option_in y ≡ []
no_option x (OneofItem-F.«OneofItem::Field» f) e h = refl
no_option x (OneofItem-F.«OneofItem::Empty» span) e h = refl
no_option x (OneofItem-F.«OneofItem::Option» o) e h =
    let is : x ≡ variants.Option o = sym (roll-out-OneofItem x) ∙ ap roll-OneofItem e ∙ variants.rolls-Option o in
    absurd (h o is)

pub each-preserved-in_default : goal.each-preserved-in_default
each-preserved-in_default c =
    let x = c.item-item.result in
    let at : member_option_at x ≡ [] = no_option x (out-OneofItem x) refl c.in_default.not-Option in
    passed member_option_at c.deref-item-items.result.now (map option_view c.each.written.items) c.each.item-index x c.each-test.true c.item-item.is at c.each.invariant

pub each-preserved : goal.each-preserved
each-preserved c =
    let x = c.item-item.result in
    let at : member_option_at x ≡ option_of c.in-Option.option.body ∷ [] = search (rules, the_lemmas) in
    rw c.in_ok-push.ensures.items (taken option_view member_option_at c.deref-item-items.result.now c.each.written.items c.each.item-index x c.in_ok-option_record.field-0 c.each-test.true c.item-item.is (at ∙ ap (λ o. o ∷ []) (sym c.in_ok-option_record.ensures)) c.each.invariant)
