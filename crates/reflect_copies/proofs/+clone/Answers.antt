use Rattle.std.proofs.Common.{rules, arith, ◌≡◌, ◌++◌, Some, ap, ◌∙◌, take, length, sym, subst}
use Rattle.std.proofs.lemmas.Bool.{and_from}
use Rattle.std.proofs.lemmas.Grind.{common_steps}
use Rattle.std.proofs.lemmas.List.{length_push}
use Rattle.std.proofs.lemmas.List.Elements.{same_from_all_zip}
use Rattle.std.proofs.lemmas.Slice.Zip.{zip_turn, zip_end}
use Rattle.reflect_copies.specs.Copies.{AreCopies}
use Rattle.reflect_message.specs.Lists.{list_items}
use Rattle.reflect_message.specs.Maps.{map_entries}
use Rattle.reflect_message.specs.Messages.{message_in}
use Rattle.reflect_copies.specs.Trees.{dictionary, dictionary_of}
use Rattle.reflect_message.specs.declared.value.ValueOf.{List as ListOf, Map, Message, the_lemmas}
use Rattle.reflect_copies.proofs.Copying.{copies_next, copies_all}
use Rattle.reflect_copies.proofs.Alike.{map_seen}
use Rattle.reflect_copies.proofs.Entries.{copied_next}
use Rattle.reflect_copies.proofs.InOrder.{copy_put, entries_from, filled_in_order, held_in_order-Block, item_pushed, order_of_list, order_of_map, order_of_message}
use Rattle.reflect_copies.proofs.Trees.{held_tree-Block}
use Rattle.reflect_copies.proofs.+clone.Goals as goal

pub value::value_clone-returns-in_ok-clone-in-Bytes : goal.value::value_clone-returns-in_ok-clone-in-Bytes
value::value_clone-returns-in_ok-clone-in-Bytes t c = record {
  content = search (rules, the_lemmas, same_from_all_zip);
  in_order = search (rules, the_lemmas);
}

pub value::value_clone-returns-in_ok-message_clone-in-Message-clause-in_order : goal.value::value_clone-returns-in_ok-message_clone-in-Message-clause-in_order
value::value_clone-returns-in_ok-message_clone-in-Message-clause-in_order t c =
    let copied = c.in_ok-message_clone-in-Message in
    let copy = copied.field-0 in
    let new : message_in (Message copy) ≡ Some copy = search (rules, the_lemmas) in
    order_of_message (Message copy) copy new ∙ copied.ensures.in_order

pub value::value_clone-returns-in_ok-list_clone-in-List-clause-in_order : goal.value::value_clone-returns-in_ok-list_clone-in-List-clause-in_order
value::value_clone-returns-in_ok-list_clone-in-List-clause-in_order t c =
    let copied = c.in_ok-list_clone-in-List in
    let copy = copied.field-0 in
    let new : list_items (ListOf copy) ≡ Some copy.items = search (rules, the_lemmas) in
    order_of_list (ListOf copy) copy.items new ∙ copied.ensures.in_order

pub value::value_clone-returns-in_ok-map_clone-in-Map : goal.value::value_clone-returns-in_ok-map_clone-in-Map
value::value_clone-returns-in_ok-map_clone-in-Map t c =
    let copied = c.in_ok-map_clone-in-Map in
    let copy = copied.field-0 in
    let old : map_entries c.args.value.now ≡ Some c.in-Map.entries.entries = search (rules, the_lemmas) in
    let new : map_entries (Map copy) ≡ Some copy.entries = search (rules, the_lemmas) in
    record {
      content = map_seen (Map copy) copy.entries new ∙ ap (λ l. dictionary (dictionary_of l)) copied.ensures.content
          ∙ sym (map_seen c.args.value.now c.in-Map.entries.entries old);
      in_order = order_of_map (Map copy) copy.entries new ∙ copied.ensures.in_order;
    }

pub value::list_clone-values-preserved : goal.value::list_clone-values-preserved
value::list_clone-values-preserved t c = record {
  content = grind (arith, common_steps);
  in_order = item_pushed c.values.copy.items c.push.new.self.items c.in_ok-value_clone.field-0 c.in_ok-push.ensures.items c.values.invariant.in_order c.in_ok-value_clone.ensures.in_order;
}

pub value::map_clone-loop-key-preserved : goal.value::map_clone-loop-key-preserved
value::map_clone-loop-key-preserved t c =
    let l = c.loop-key in
    let so_far = l.invariant.copied in
    let all = c.args.entries.now.entries in
    let left = c.next.new.self in
    let key = c.in-Some.key.now in
    let copy = c.in_ok-value_clone.field-0 in
    let new = c.insert_at.new.entries.entries in
    record {
      copied = copied_next all left l.copy.entries new (key, c.in-Some.value.now) copy c.iter-key-items.ensures.ordered c.in_ok-value_clone.ensures.content c.in_ok-insert_at.ensures
          (so_far.0, so_far.1 ∙ ap (λ es. so_far.0 ++ es) c.in-Some.ensures.steps, so_far.2);
      in_order = copy_put key copy l.copy.entries new c.in_ok-insert_at.ensures l.invariant.in_order c.in_ok-value_clone.ensures.in_order;
    }

pub message::entries_clone-entries-preserved : goal.message::entries_clone-entries-preserved
message::entries_clone-entries-preserved t c =
    let numbers = c.numbers.result.now in
    let values = c.values.result.now in
    let so_far = c.entries.yielded in
    let turn = zip_turn numbers values so_far c.into_iter-number-iterator.result c.entries.number-iterator c.next.new.self c.next.result (search rules) (search rules) c.entries.yielded_by (c.in-Some.number, c.in-Some.value) c.in-Some.is c.next.ensures.steps in
    let next = c.fill.new.self in
    let number = c.in-Some.number.now in
    let copy = c.in_ok-value_clone.field-0 in
    let made = c.in_ok-value_clone.ensures in
    let put = c.in_ok-fill.ensures.updates in
    let more = copies_next c.args.entries.now c.entries.copy next (length so_far) number c.in-Some.value.now copy numbers values c.numbers.ensures c.values.ensures turn c.entries.invariant.copies put made.content in
    record {
      copies = subst (λ n. AreCopies (take n c.args.entries.now) next) (sym (length_push so_far (c.in-Some.number, c.in-Some.value))) more;
      ascending = put.ascending;
      in_order = filled_in_order c.entries.copy next number copy put made.in_order c.entries.invariant.in_order;
    }

pub message::entries_clone-returns : goal.message::entries_clone-returns
message::entries_clone-returns t c =
    let numbers = c.numbers.result.now in
    let values = c.values.result.now in
    let so_far = c.entries.yielded in
    let ends = zip_end numbers values so_far c.into_iter-number-iterator.result c.entries.number-iterator c.next.new.self c.next.result (search rules) (search rules) c.entries.yielded_by c.in-None.is c.next.ensures.steps in
    let copied = c.entries.invariant in
    record {
      copies = copies_all c.args.entries.now c.entries.copy (length so_far) numbers values c.numbers.ensures c.values.ensures ends copied.copies;
      ascending = copied.ascending;
      in_order = entries_from c.entries.copy copied.ascending copied.in_order;
    }

pub message::parts_clone-returns-clause-in_order : goal.message::parts_clone-returns-clause-in_order
message::parts_clone-returns-clause-in_order t c = and_from _ _ c.in_ok-entries_clone.ensures.in_order c.in_ok-entries_clone-2.ensures.in_order

pub message::held_clone-returns-in_ok-new-in-Block-clause-content : goal.message::held_clone-returns-in_ok-new-in-Block-clause-content
message::held_clone-returns-in_ok-new-in-Block-clause-content t c = search (rules, held_tree-Block)

pub message::held_clone-returns-in_ok-new-in-Block-clause-in_order : goal.message::held_clone-returns-in_ok-new-in-Block-clause-in_order
message::held_clone-returns-in_ok-new-in-Block-clause-in_order t c = search (rules, held_in_order-Block)
