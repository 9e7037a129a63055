use Rattle.std.proofs.Common.{◌≡◌, ◌∙◌, ◌<◌, Some, map, length, ap, sym, subst, arith, rules}
use Rattle.std.proofs.Math.ListN.{length-map}
use Rattle.std.proofs.Math.Seq.{map-set_same}
use Rattle.std.proofs.lemmas.List.{map-set}
use Rattle.std.proofs.lemmas.List as lists
use Rattle.reflect_tables.specs.Types.{no_children}
use Rattle.reflect_index.specs.Children.{draft_children, children_at, with_child, ListsIn}
use Rattle.reflect_index.specs.OfDeclarations.{draft_ranges}
use Rattle.reflect_index.specs.DraftNames.{draft_name}
use Rattle.reflect_index.specs.Grown.{draft_head, draft_fields, draft_oneofs}
use Rattle.reflect_index.specs.declared.drafts.MessageDraft.{MessageDraft}
use Rattle.reflect_index.proofs.Listed.{changed}
use Rattle.reflect_index.proofs.children.push_nested.Goals as goal

pub returns-in_ok-push_child-clause-kept : goal.returns-in_ok-push_child-clause-kept
returns-in_ok-push_child-clause-kept c =
    let items = c.args.messages.now.items in
    let place = c.in_ok-place.place in
    let was = c.index_mut.result.now in
    let same = c.index_mut.ensures.value in
    record {
      names = map-set_same draft_name items place _ was (ap draft_name same);
      ranges = map-set_same draft_ranges items place _ was (ap draft_ranges same);
      heads = map-set_same draft_head items place _ was (ap draft_head same);
      fields = map-set_same draft_fields items place _ was (ap draft_fields same);
      oneofs = map-set_same draft_oneofs items place _ was (ap draft_oneofs same);
    }

pub returns-in_ok-push_child-clause-nested : goal.returns-in_ok-push_child-clause-nested
returns-in_ok-push_child-clause-nested c =
    let items = c.args.messages.now.items in
    let place = c.in_ok-place.place in
    let was = c.index_mut.result.now in
    let now : MessageDraft = record { file = was.file; parent = was.parent; path = was.path; name = was.name; full_name = was.full_name; is_entry = was.is_entry; fields = was.fields; oneofs = was.oneofs; children = c.push_child.new.children; reserved_numbers = was.reserved_numbers; extension_numbers = was.extension_numbers } in
    let olds = map draft_children items in
    let all : length olds ≡ length items = length-map items draft_children in
    let inside : place < length items = search rules in
    let here : draft_children was ≡ children_at olds place = ap draft_children c.index_mut.ensures.value ∙ sym (lists.get_or-map draft_children items place was no_children inside) in
    let more : draft_children now ≡ with_child c.args.child (children_at olds place) = c.in_ok-push_child.ensures ∙ ap (with_child c.args.child) here in
    subst (ListsIn c.args.first (Some c.args.message) c.args.child olds) (sym (map-set draft_children items place now))
    (changed no_children (with_child c.args.child) olds place c.args.first c.args.message (draft_children now) c.in_ok-place.ensures.sum (omega (arith, inside, all)) more)
