use Rattle.std.proofs.Common.{◌≡◌, ◌∙◌, ◌<◌, ◌++◌, ◌∷◌, [], None, map, length, ap, sym, subst, arith, rules}
use Rattle.std.proofs.Math.ListN.{length-map}
use Rattle.std.proofs.lemmas.List.{map-set}
use Rattle.std.proofs.lemmas.List as lists
use Rattle.reflect_tables.specs.Types.{FilePlaces, no_places}
use Rattle.reflect_tables.specs.Views.{children_of, declared_of}
use Rattle.reflect_tables.specs.declared.stored.Declared.{Declared}
use Rattle.reflect_index.specs.Children.{places_at, with_service, ListsOutside}
use Rattle.reflect_index.proofs.Listed.{changed}
use Rattle.reflect_index.proofs.children.push_service.Goals as goal

pub returns-in_ok-push : goal.returns-in_ok-push
returns-in_ok-push c =
    let items = c.args.files.now.items in
    let place = c.in_ok-place.place in
    let was = c.index_mut.result.now in
    let now : Declared = record { children = was.children; services = c.push.new.self } in
    let more = with_service c.args.service in
    let olds = map declared_of items in
    let all : length olds ≡ length items = length-map items declared_of in
    let inside : place < length items = search rules in
    let here : declared_of was ≡ places_at olds place = ap declared_of c.index_mut.ensures.value ∙ sym (lists.get_or-map declared_of items place was no_places inside) in
    let added : c.push.new.self.items ≡ was.services.items ++ c.args.service ∷ [] = search rules in
    let pushed : declared_of now ≡ more (places_at olds place) = ap {B = FilePlaces} (λ l. record { children = children_of was.children; services = l }) added ∙ ap more here in
    subst (ListsOutside c.args.first c.args.file None more olds) (sym (map-set declared_of items place now))
    (changed no_places more olds place c.args.first c.args.file (declared_of now) c.in_ok-place.ensures.sum (omega (arith, inside, all)) pushed)
