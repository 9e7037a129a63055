use Rattle.std.proofs.Common.{◌≡◌, ◌∙◌, ◌<◌, ◌++◌, ◌∷◌, [], Some, map, get_or, length, ap, sym, subst, arith, rules}
use Rattle.std.proofs.Math.ListN.{set, length-map}
use Rattle.std.proofs.Math.Seq.{map-set_same}
use Rattle.std.proofs.lemmas.List.{map-append, map-set}
use Rattle.std.proofs.lemmas.List as lists
use Rattle.reflect_tables.specs.Views.{value_of}
use Rattle.reflect_index.specs.DraftNames.{enum_draft_name}
use Rattle.reflect_index.specs.OfDeclarations.{draft_values, stored_value, add_value}
use Rattle.reflect_index.specs.Grown.{enum_draft_head, draft_value_types, list_at, GrowsAt}
use Rattle.reflect_index.specs.declared.drafts.EnumDraft.{EnumDraft}
use Rattle.reflect_index.proofs.Grown.{grown}
use Rattle.reflect_index.proofs.visitor.push_value.Goals as goal

pub returns-in_ok-push-clause-names : goal.returns-in_ok-push-clause-names
returns-in_ok-push-clause-names c = map-set_same enum_draft_name c.args.enums.now.items c.in_ok-place.place _ c.index_mut.result.now (ap enum_draft_name c.index_mut.ensures.value)

pub returns-in_ok-push-clause-values : goal.returns-in_ok-push-clause-values
returns-in_ok-push-clause-values c =
    let items = c.args.enums.now.items in
    let place = c.in_ok-place.place in
    let was = c.index_mut.result.now in
    let now : EnumDraft = record { file = was.file; parent = was.parent; path = was.path; name = was.name; full_name = was.full_name; values = c.push.new.self } in
    let v = stored_value c.args.value in
    let inside : place < length items = search rules in
    let pushed : c.push.new.self.items ≡ was.values.items ++ c.args.value ∷ [] = search rules in
    let here : draft_values was ≡ get_or (map draft_values items) place [] = ap draft_values c.index_mut.ensures.value ∙ sym (lists.get_or-map draft_values items place was [] inside) in
    let more : draft_values now ≡ get_or (map draft_values items) place [] ++ v ∷ [] = ap (map stored_value) pushed ∙ map-append stored_value was.values.items (c.args.value ∷ []) ∙ ap (λ l. l ++ v ∷ []) here in
    map-set draft_values items place now ∙ ap (set (map draft_values items) place) more ∙ ap (λ n. add_value (map draft_values items) n v) c.in_ok-place.ensures.place

pub returns-in_ok-push-clause-types : goal.returns-in_ok-push-clause-types
returns-in_ok-push-clause-types c =
    let items = c.args.enums.now.items in
    let place = c.in_ok-place.place in
    let was = c.index_mut.result.now in
    let now : EnumDraft = record { file = was.file; parent = was.parent; path = was.path; name = was.name; full_name = was.full_name; values = c.push.new.self } in
    let x = value_of c.args.value in
    let olds = map draft_value_types items in
    let all : length olds ≡ length items = length-map items draft_value_types in
    let inside : place < length items = search rules in
    let pushed : c.push.new.self.items ≡ was.values.items ++ c.args.value ∷ [] = search rules in
    let here : draft_value_types was ≡ list_at olds place = ap draft_value_types c.index_mut.ensures.value ∙ sym (lists.get_or-map draft_value_types items place was [] inside) in
    let more : draft_value_types now ≡ list_at olds place ++ x ∷ [] = ap (map value_of) pushed ∙ map-append value_of was.values.items (c.args.value ∷ []) ∙ ap (λ l. l ++ x ∷ []) here in
    subst (GrowsAt c.args.first (Some c.args.enumeration) x olds) (sym (map-set draft_value_types items place now))
    (grown olds place c.args.first c.args.enumeration x (draft_value_types now) c.in_ok-place.ensures.sum (omega (arith, inside, all)) more)

pub returns-in_ok-push-clause-heads : goal.returns-in_ok-push-clause-heads
returns-in_ok-push-clause-heads c = map-set_same enum_draft_head c.args.enums.now.items c.in_ok-place.place _ c.index_mut.result.now (ap enum_draft_head c.index_mut.ensures.value)
