use Rattle.std.proofs.Common.{◌≡◌, ◌∙◌, ◌<◌, ◌++◌, ◌∷◌, [], Some, map, length, ap, sym, subst, arith, rules}
use Rattle.std.proofs.Math.ListN.{length-map}
use Rattle.std.proofs.Math.Seq.{map-set_same}
use Rattle.std.proofs.lemmas.List.{map-append, map-set}
use Rattle.std.proofs.lemmas.List as lists
use Rattle.reflect_index.specs.Children.{draft_children}
use Rattle.reflect_index.specs.OfDeclarations.{draft_ranges}
use Rattle.reflect_index.specs.DraftNames.{draft_name}
use Rattle.reflect_index.specs.Grown.{draft_head, draft_fields, draft_oneofs, declared_field, list_at, GrowsAt}
use Rattle.reflect_index.specs.declared.drafts.MessageDraft.{MessageDraft}
use Rattle.reflect_index.proofs.Grown.{grown}
use Rattle.reflect_index.proofs.visitor.push_field.Goals as goal

pub returns-in_ok-push-clause-names : goal.returns-in_ok-push-clause-names
returns-in_ok-push-clause-names c = map-set_same draft_name c.args.messages.now.items c.in_ok-place.place _ c.index_mut.result.now (ap draft_name c.index_mut.ensures.value)

pub returns-in_ok-push-clause-ranges : goal.returns-in_ok-push-clause-ranges
returns-in_ok-push-clause-ranges c = map-set_same draft_ranges c.args.messages.now.items c.in_ok-place.place _ c.index_mut.result.now (ap draft_ranges c.index_mut.ensures.value)

pub returns-in_ok-push-clause-oneofs : goal.returns-in_ok-push-clause-oneofs
returns-in_ok-push-clause-oneofs c = map-set_same draft_oneofs c.args.messages.now.items c.in_ok-place.place _ c.index_mut.result.now (ap draft_oneofs c.index_mut.ensures.value)

pub returns-in_ok-push-clause-fields : goal.returns-in_ok-push-clause-fields
returns-in_ok-push-clause-fields c =
    let items = c.args.messages.now.items in
    let place = c.in_ok-place.place in
    let was = c.index_mut.result.now in
    let now : MessageDraft = record { file = was.file; parent = was.parent; path = was.path; name = was.name; full_name = was.full_name; is_entry = was.is_entry; fields = c.push.new.self; oneofs = was.oneofs; children = was.children; reserved_numbers = was.reserved_numbers; extension_numbers = was.extension_numbers } in
    let x = declared_field c.args.field in
    let olds = map draft_fields items in
    let all : length olds ≡ length items = length-map items draft_fields in
    let inside : place < length items = search rules in
    let pushed : c.push.new.self.items ≡ was.fields.items ++ c.args.field ∷ [] = search rules in
    let here : draft_fields was ≡ list_at olds place = ap draft_fields c.index_mut.ensures.value ∙ sym (lists.get_or-map draft_fields items place was [] inside) in
    let more : draft_fields now ≡ list_at olds place ++ x ∷ [] = ap (map declared_field) pushed ∙ map-append declared_field was.fields.items (c.args.field ∷ []) ∙ ap (λ l. l ++ x ∷ []) here in
    subst (GrowsAt c.args.first (Some c.args.message) x olds) (sym (map-set draft_fields items place now))
    (grown olds place c.args.first c.args.message x (draft_fields now) c.in_ok-place.ensures.sum (omega (arith, inside, all)) more)

pub returns-in_ok-push-clause-children : goal.returns-in_ok-push-clause-children
returns-in_ok-push-clause-children c = map-set_same draft_children c.args.messages.now.items c.in_ok-place.place _ c.index_mut.result.now (ap draft_children c.index_mut.ensures.value)

pub returns-in_ok-push-clause-heads : goal.returns-in_ok-push-clause-heads
returns-in_ok-push-clause-heads c = map-set_same draft_head c.args.messages.now.items c.in_ok-place.place _ c.index_mut.result.now (ap draft_head c.index_mut.ensures.value)
