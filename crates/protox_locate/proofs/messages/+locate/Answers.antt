use Rattle.std.proofs.Common.{◌≡◌, ◌∙◌, ◌∷◌, [], List, map, ap, sym, refl, rules}
use Rattle.descriptor_records.specs.declared.tag.message.TheConstants as messages
use Rattle.descriptor_records.specs.declared.tag.oneof.TheConstants as oneofs
use Rattle.protox_lex.specs.declared.span.Span.{Span}
use Rattle.protox_locate.specs.Collected.{meet, meets, state}
use Rattle.protox_locate.specs.Declarations.{entry}
use Rattle.protox_locate.specs.Located.{Event, closing, inside, part, statement}
use Rattle.protox_locate.specs.Messages.{added_events, added_item_events, after_added, after_added_item, after_extend, after_item, after_member, after_members, after_oneof, extend_events, field_parts_events, group_events, in_oneof, item_events, items_events, member_events, members_events, message_events, no_counts, oneof_events}
use Rattle.protox_locate.specs.declared.messages.MessageCounts.{MessageCounts}
use Rattle.protox_locate.specs.declared.messages.OneofCounts.{OneofCounts}
use Rattle.protox_locate.specs.declared.slot.FieldCounts.{FieldCounts}
use Rattle.protox_tree.specs.Nest.{added_of, items_of, members_of}
use Rattle.protox_tree.specs.NestView.{added_view, field_view, group_view, item_view, member_view}
use Rattle.protox_tree.specs.Places.{type_name_span}
use Rattle.protox_tree.specs.View.{type_name_view}
use Rattle.protox_tree.specs.declared.message.ExtendItem.{ExtendItem}
use Rattle.protox_tree.specs.declared.message.MessageItem.{MessageItem}
use Rattle.protox_tree.specs.declared.message.OneofItem.{OneofItem}
use Rattle.protox_locate.proofs.Meets.{all_counted, all_met, braced, by_way, meets_append, next_counted, next_met}
use Rattle.protox_locate.proofs.Nests.{extend_is, group_counted, group_is, group_met, map_counted, map_met, message_is, normal_counted, normal_met, oneof_is}
use Rattle.protox_locate.proofs.messages.+locate.Goals as goal

-- ---- messages

pub message-returns : goal.message-returns
message-returns t c =
    let path = c.args.path.now in
    let old = state c.args.locator.now in
    let m = c.args.statement.now in
    braced old (state c.enter.new.self) (state c.add.new.self) (state c.items.new.locator) (state c.leave.new.self)
    (statement path [] m.span (inside m.braces)) (part path (messages.NAME ∷ []) m.name.span) (items_events path no_counts (items_of (map item_view m.items.items))) (closing m.braces)
    c.in_ok-enter.ensures c.in_ok-add.ensures c.in_ok-items.ensures c.in_ok-leave.ensures
    ∙ ap (λ v. meets old (message_events path v)) (sym (message_is m))

pub group-returns : goal.group-returns
group-returns t c =
    let path = c.args.path.now in
    let old = state c.args.locator.now in
    let g = c.args.group.now in
    braced old (state c.enter.new.self) (state c.add.new.self) (state c.items.new.locator) (state c.leave.new.self)
    (statement path [] c.args.span (inside g.braces)) (part path (messages.NAME ∷ []) c.args.name) (items_events path no_counts (items_of (map item_view g.items.items))) (closing g.braces)
    c.in_ok-enter.ensures c.in_ok-add.ensures c.in_ok-items.ensures c.in_ok-leave.ensures
    ∙ ap (λ v. meets old (group_events path c.args.span c.args.name v)) (sym (group_is g))

pub items-items-preserved : goal.items-items-preserved
items-items-preserved t c =
    let path = c.args.path.now in
    let step = c.in_ok-message_item.ensures in
    next_met (λ n x. item_events path n (item_view x)) (λ n x. after_item n (item_view x)) (λ n xs. items_events path n (items_of (map item_view xs))) (λ n x xs. refl)
    c.deref-item-items.result.now c.items.item-index c.item-item.result (state c.items.locator) (state c.message_item.new.locator) c.items.counts c.message_item.new.counts
    c.items-test.true c.item-item.is step.located step.counted
    ∙ c.items.invariant

pub items-returns : goal.items-returns
items-returns t c =
    let path = c.args.path.now in
    let all : MessageCounts → List MessageItem → List Event = λ n xs. items_events path n (items_of (map item_view xs)) in
    sym (all_met all (λ n. refl) c.deref-item-items.result.now c.items.item-index (state c.items.locator) c.items.counts c.items-test.false)
    ∙ c.items.invariant ∙ ap (λ xs. meets (state c.args.locator.now) (all no_counts xs)) c.deref-item-items.ensures.value

-- ---- fields

pub field-returns-in-Group-clause-located : goal.field-returns-in-Group-clause-located
field-returns-in-Group-clause-located t c =
    let path = c.args.path.now in
    let tags = c.args.tags in
    let counts = c.args.counts.now in
    let f = c.args.field.now in
    let old = state c.args.locator.now in
    let at : c.as_slice-here.result.now ≡ entry path tags.field counts.fields = search rules in
    let inner : c.as_slice-inside.result.now ≡ entry path tags.nested_type counts.types = search rules in
    let body = group_view c.in-Group.body in
    let begun = part (entry path tags.field counts.fields) [] f.span ∷ field_parts_events (entry path tags.field counts.fields) c.args.extendee (field_view f) in
    let first : state c.group_field.new.locator ≡ meets old begun =
    c.in_ok-group_field-in-Group.ensures ∙ ap (λ a. meets old (part a [] f.span ∷ field_parts_events a c.args.extendee (field_view f))) at in
    c.in_ok-group-in-Group.ensures ∙ ap (λ a. meets (state c.group_field.new.locator) (group_events a f.span f.name.span body)) inner
    ∙ ap (λ s. meets s (group_events (entry path tags.nested_type counts.types) f.span f.name.span body)) first
    ∙ sym (meets_append old begun (group_events (entry path tags.nested_type counts.types) f.span f.name.span body))
    ∙ ap (meets old) (sym (group_met path tags counts c.args.extendee f _ c.in-Group.is))

pub field-returns-in-Group-clause-counted : goal.field-returns-in-Group-clause-counted
field-returns-in-Group-clause-counted t c = by_way (sym (group_counted c.args.path.now c.args.tags c.args.counts.now c.args.extendee c.args.field.now _ c.in-Group.is)) (search rules)

pub field-returns-in-Map-clause-located : goal.field-returns-in-Map-clause-located
field-returns-in-Map-clause-located t c =
    let path = c.args.path.now in
    let tags = c.args.tags in
    let counts = c.args.counts.now in
    let f = c.args.field.now in
    let old = state c.args.locator.now in
    let at : c.as_slice-here.result.now ≡ entry path tags.field counts.fields = search rules in
    c.in_ok-field_statement-in-Map.ensures ∙ ap (λ a. meets old (statement a [] f.span f.span.end ∷ field_parts_events a c.args.extendee (field_view f))) at
    ∙ ap (meets old) (sym (map_met path tags counts c.args.extendee f _ c.in-Map.is))

pub field-returns-in-Map-clause-counted : goal.field-returns-in-Map-clause-counted
field-returns-in-Map-clause-counted t c = by_way (sym (map_counted c.args.path.now c.args.tags c.args.counts.now c.args.extendee c.args.field.now _ c.in-Map.is)) (search rules)

pub field-returns-clause-located : goal.field-returns-clause-located
field-returns-clause-located t c =
    let path = c.args.path.now in
    let tags = c.args.tags in
    let counts = c.args.counts.now in
    let f = c.args.field.now in
    let old = state c.args.locator.now in
    let at : c.as_slice-here.result.now ≡ entry path tags.field counts.fields = search rules in
    c.in_ok-field_statement-in-Normal.ensures ∙ ap (λ a. meets old (statement a [] f.span f.span.end ∷ field_parts_events a c.args.extendee (field_view f))) at
    ∙ ap (meets old) (sym (normal_met path tags counts c.args.extendee f _ c.in-Normal.is))

pub field-returns-clause-counted : goal.field-returns-clause-counted
field-returns-clause-counted t c = by_way (sym (normal_counted c.args.path.now c.args.tags c.args.counts.now c.args.extendee c.args.field.now _ c.in-Normal.is)) (search rules)

-- ---- oneofs

pub oneof-members-preserved : goal.oneof-members-preserved
oneof-members-preserved t c =
    let path = c.args.path.now in
    let at = c.args.at.now in
    let items = c.deref-item-items.result.now in
    let step = c.in_ok-member.ensures in
    record {
      located = next_met (λ n x. member_events path at n (member_view x)) (λ n x. after_member n (member_view x)) (λ n xs. members_events path at n (members_of (map member_view xs))) (λ n x xs. refl)
          items c.members.item-index c.item-item.result (state c.members.locator) (state c.member.new.locator) c.members.counts c.member.new.counts c.members-test.true c.item-item.is step.located step.counted
          ∙ c.members.invariant.located;
      counted = next_counted (λ n x. after_member n (member_view x)) (λ n xs. after_members n (members_of (map member_view xs))) (λ n x xs. refl)
          items c.members.item-index c.item-item.result c.members.counts c.member.new.counts c.members-test.true c.item-item.is step.counted
          ∙ c.members.invariant.counted;
    }

pub oneof-returns-clause-located : goal.oneof-returns-clause-located
oneof-returns-clause-located t c =
    let path = c.args.path.now in
    let at = c.args.at.now in
    let old = state c.args.locator.now in
    let fields = c.args.fields.now in
    let o = c.args.statement.now in
    let all : OneofCounts → List OneofItem → List Event = λ n xs. members_events path at n (members_of (map member_view xs)) in
    let inside_is = sym (all_met all (λ n. refl) c.deref-item-items.result.now c.members.item-index (state c.members.locator) c.members.counts c.members-test.false) ∙ c.members.invariant.located in
    braced old (state c.enter.new.self) (state c.add.new.self) (state c.members.locator) (state c.leave.new.self)
    (statement at [] o.span (inside o.braces)) (part at (oneofs.NAME ∷ []) o.name.span) (all (in_oneof fields) o.items.items) (closing o.braces)
    c.in_ok-enter.ensures c.in_ok-add.ensures (inside_is ∙ ap (λ xs. meets (state c.add.new.self) (all (in_oneof fields) xs)) c.deref-item-items.ensures.value) c.in_ok-leave.ensures
    ∙ ap (λ v. meets old (oneof_events path at fields v)) (sym (oneof_is o))

pub oneof-returns-clause-counted : goal.oneof-returns-clause-counted
oneof-returns-clause-counted t c =
    let fields = c.args.fields.now in
    let o = c.args.statement.now in
    let all : OneofCounts → List OneofItem → OneofCounts = λ n xs. after_members n (members_of (map member_view xs)) in
    let inside_is = sym (all_counted all c.deref-item-items.result.now c.members.item-index c.members.counts c.members-test.false) ∙ c.members.invariant.counted in
    ap (λ (n : OneofCounts). n.fields) (inside_is ∙ ap (all (in_oneof fields)) c.deref-item-items.ensures.value)
    ∙ ap (after_oneof fields) (sym (oneof_is o))

-- ---- extensions

pub extend-inside-preserved : goal.extend-inside-preserved
extend-inside-preserved t c =
    let path = c.args.path.now in
    let tags = c.args.tags in
    let extendee = c.span-extendee.result in
    let items = c.deref-item-items.result.now in
    let step = c.in_ok-added.ensures in
    record {
      located = next_met (λ n x. added_item_events path tags n extendee (added_view x)) (λ n x. after_added_item n (added_view x)) (λ n xs. added_events path tags n extendee (added_of (map added_view xs))) (λ n x xs. refl)
          items c.inside.item-index c.item-item.result (state c.inside.locator) (state c.added.new.locator) c.inside.counts c.added.new.counts c.inside-test.true c.item-item.is step.located step.counted
          ∙ c.inside.invariant.located;
      counted = next_counted (λ n x. after_added_item n (added_view x)) (λ n xs. after_added n (added_of (map added_view xs))) (λ n x xs. refl)
          items c.inside.item-index c.item-item.result c.inside.counts c.added.new.counts c.inside-test.true c.item-item.is step.counted
          ∙ c.inside.invariant.counted;
    }

pub extend-returns-clause-located : goal.extend-returns-clause-located
extend-returns-clause-located t c =
    let path = c.args.path.now in
    let tags = c.args.tags in
    let counts = c.args.counts.now in
    let old = state c.args.locator.now in
    let e = c.args.statement.now in
    let begun = statement path (tags.field ∷ []) e.span (inside e.braces) in
    let all : Span → FieldCounts → List ExtendItem → List Event = λ s n xs. added_events path tags n s (added_of (map added_view xs)) in
    let extendee = c.span-extendee.result in
    let items = e.items.items in
    let enter : state c.enter.new.self ≡ meet old begun = search rules in
    let inside_is = sym (all_met (all extendee) (λ n. refl) c.deref-item-items.result.now c.inside.item-index (state c.inside.locator) c.inside.counts c.inside-test.false) ∙ c.inside.invariant.located in
    c.in_ok-leave.ensures
    ∙ ap (λ s. meet s (closing e.braces)) (
    inside_is ∙ ap (λ xs. meets (state c.enter.new.self) (all extendee counts xs)) c.deref-item-items.ensures.value ∙ ap (λ s. meets s (all extendee counts items)) enter
    ∙ ap (λ s. meets (meet old begun) (all s counts items)) c.span-extendee.ensures
    )
    ∙ sym (meets_append old (begun ∷ all (type_name_span (type_name_view e.extendee)) counts items) (closing e.braces ∷ []))
    ∙ ap (λ v. meets old (extend_events path tags counts v)) (sym (extend_is e))

pub extend-returns-clause-counted : goal.extend-returns-clause-counted
extend-returns-clause-counted t c =
    let counts = c.args.counts.now in
    let e = c.args.statement.now in
    let all : FieldCounts → List ExtendItem → FieldCounts = λ n xs. after_added n (added_of (map added_view xs)) in
    let inside_is = sym (all_counted all c.deref-item-items.result.now c.inside.item-index c.inside.counts c.inside-test.false) ∙ c.inside.invariant.counted in
    inside_is ∙ ap (all counts) c.deref-item-items.ensures.value ∙ ap (after_extend counts) (sym (extend_is e))
