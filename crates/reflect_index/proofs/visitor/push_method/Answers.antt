use Rattle.std.proofs.Common.{◌≡◌, ◌∙◌, ◌<◌, ◌++◌, ◌∷◌, [], Some, map, length, ap, sym, subst, arith, rules}
use Rattle.std.proofs.Math.ListN.{length-map}
use Rattle.std.proofs.Math.Seq.{map-set_same}
use Rattle.std.proofs.lemmas.List.{map-append, map-set}
use Rattle.std.proofs.lemmas.List as lists
use Rattle.reflect_tables.specs.Views.{method_of}
use Rattle.reflect_tables.specs.declared.stored.StoredService.{StoredService}
use Rattle.reflect_index.specs.DraftNames.{stored_service_name}
use Rattle.reflect_index.specs.Grown.{service_head, stored_methods, list_at, GrowsAt}
use Rattle.reflect_index.proofs.Grown.{grown}
use Rattle.reflect_index.proofs.visitor.push_method.Goals as goal

pub returns-in_ok-push-clause-names : goal.returns-in_ok-push-clause-names
returns-in_ok-push-clause-names c = map-set_same stored_service_name c.args.services.now.items c.in_ok-place.place _ c.index_mut.result.now (ap stored_service_name c.index_mut.ensures.value)

pub returns-in_ok-push-clause-methods : goal.returns-in_ok-push-clause-methods
returns-in_ok-push-clause-methods c =
    let items = c.args.services.now.items in
    let place = c.in_ok-place.place in
    let was = c.index_mut.result.now in
    let now : StoredService = record { file = was.file; path = was.path; name = was.name; full_name = was.full_name; methods = c.push.new.self } in
    let x = method_of c.args.method in
    let olds = map stored_methods items in
    let all : length olds ≡ length items = length-map items stored_methods in
    let inside : place < length items = search rules in
    let pushed : c.push.new.self.items ≡ was.methods.items ++ c.args.method ∷ [] = search rules in
    let here : stored_methods was ≡ list_at olds place = ap stored_methods c.index_mut.ensures.value ∙ sym (lists.get_or-map stored_methods items place was [] inside) in
    let more : stored_methods now ≡ list_at olds place ++ x ∷ [] = ap (map method_of) pushed ∙ map-append method_of was.methods.items (c.args.method ∷ []) ∙ ap (λ l. l ++ x ∷ []) here in
    subst (GrowsAt c.args.first (Some c.args.service) x olds) (sym (map-set stored_methods items place now))
    (grown olds place c.args.first c.args.service x (stored_methods now) c.in_ok-place.ensures.sum (omega (arith, inside, all)) more)

pub returns-in_ok-push-clause-heads : goal.returns-in_ok-push-clause-heads
returns-in_ok-push-clause-heads c = map-set_same service_head c.args.services.now.items c.in_ok-place.place _ c.index_mut.result.now (ap service_head c.index_mut.ensures.value)
