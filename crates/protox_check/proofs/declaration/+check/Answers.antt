use Rattle.std.proofs.Common.{◌≡◌, ◌∙◌, ◌++◌, Bool, ap, sym, not, rules, arith, append_assoc}
use Rattle.std.proofs.lemmas.Grind.{common_steps}
use Rattle.std.specs.List.{flat_map}
use Rattle.protox_check.proofs.Behind.{told_next}
use Rattle.protox_check.proofs.Nests.{items_listed, members_listed, added_listed, oneof_parts, extend_parts}
use Rattle.protox_check.specs.Faults.{item_faults, member_faults, added_item_faults, has_field, oneof_faults, extend_faults}
use Rattle.protox_check.specs.Words.{told_if}
use Rattle.protox_tree.specs.Nest.{members_of}
use Rattle.protox_tree.specs.NestView.{item_view, member_view, members_view, added_view}
use Rattle.protox_tree.specs.declared.error.ParseErrorKind.TheVariants as kinds
use Rattle.protox_check.proofs.declaration.+check.Goals as goal

pub check_items-returns : goal.check_items-returns
check_items-returns t c =
    let s = c.args.syntax in
    let old = c.args.faults.now.items in
    let xs = c.args.items.now.items in
    let told : c.each.faults.items ≡ old ++ flat_map (λ i. item_faults s (item_view i)) xs = first_of (search rules, grind (arith, common_steps)) in
    told ∙ ap (λ ks. old ++ ks) (sym (items_listed s xs))

pub check_oneof-returns : goal.check_oneof-returns
check_oneof-returns t c =
    let s = c.args.syntax in
    let old = c.args.faults.now.items in
    let o = c.args.oneof.now in
    let xs = o.items.items in
    let those = flat_map (λ i. member_faults s (member_view i)) xs in
    let empty = λ (b : Bool). told_if (not b) (kinds.EmptyOneof o.span) in
    let told : c.each.faults.items ≡ c.tell_if.new.faults.items ++ those = first_of (search rules, grind (arith, common_steps)) in
    told ∙ ap (λ ks. ks ++ those) c.in_ok-tell_if.ensures
    ∙ ap (λ b. (old ++ empty b) ++ those) c.has_field-is_empty.ensures
    ∙ append_assoc old (empty (has_field (members_of (members_view xs)))) those
    ∙ ap (λ ks. old ++ (empty (has_field (members_of (members_view xs))) ++ ks)) (sym (members_listed s xs))
    ∙ ap (λ o. old ++ oneof_faults s o) (sym (oneof_parts o))

pub check_extend-returns : goal.check_extend-returns
check_extend-returns t c =
    let s = c.args.syntax in
    let old = c.args.faults.now.items in
    let e = c.args.extend.now in
    let xs = e.items.items in
    let told : c.each.faults.items ≡ old ++ flat_map (λ i. added_item_faults s (added_view i)) xs = first_of (search rules, grind (arith, common_steps)) in
    told ∙ ap (λ ks. old ++ ks) (sym (added_listed s xs)) ∙ ap (λ e. old ++ extend_faults s e) (sym (extend_parts e))

pub check_items-each-preserved : goal.check_items-each-preserved
check_items-each-preserved t c =
    told_next (λ i. item_faults c.args.syntax (item_view i)) c.deref-item-items.result.now c.each.item-index c.item-item.result c.args.faults.now.items c.each.faults.items c.check_message_item.new.faults.items c.each-test.true c.item-item.is c.each.invariant c.in_ok-check_message_item.ensures

pub check_oneof-each-preserved : goal.check_oneof-each-preserved
check_oneof-each-preserved t c =
    told_next (λ i. member_faults c.args.syntax (member_view i)) c.deref-item-items.result.now c.each.item-index c.item-item.result c.tell_if.new.faults.items c.each.faults.items c.check_member.new.faults.items c.each-test.true c.item-item.is c.each.invariant c.in_ok-check_member.ensures

pub check_extend-each-preserved : goal.check_extend-each-preserved
check_extend-each-preserved t c =
    told_next (λ i. added_item_faults c.args.syntax (added_view i)) c.deref-item-items.result.now c.each.item-index c.item-item.result c.args.faults.now.items c.each.faults.items c.check_added_item.new.faults.items c.each-test.true c.item-item.is c.each.invariant c.in_ok-check_added_item.ensures
