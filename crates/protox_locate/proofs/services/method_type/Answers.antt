use Rattle.std.proofs.Common.{◌≡◌, ◌∷◌, [], ap, subst, sym, ◌∙◌, rules}
use Rattle.protox_locate.specs.Collected.{meet, meets, state}
use Rattle.protox_locate.specs.Declarations.{part_if}
use Rattle.protox_locate.specs.Located.{part}
use Rattle.protox_tree.specs.Places.{type_name_span}
use Rattle.protox_tree.specs.View.{type_name_view}
use Rattle.protox_locate.proofs.Meets.{meets_append}
use Rattle.protox_locate.proofs.services.method_type.Goals as goal

pub returns : goal.returns
returns c =
    let path = c.args.path.now in
    let old = state c.args.locator.now in
    let word = part_if path (c.args.stream_tag ∷ []) c.args.method_type.now.stream in
    let name = part path (c.args.name_tag ∷ []) (type_name_span (type_name_view c.args.method_type.now.name)) in
    let first : state c.add_some.new.self ≡ meets old word = search rules in
    let second : state c.add.new.self ≡ meet (state c.add_some.new.self) name =
    subst (λ s. state c.add.new.self ≡ meet (state c.add_some.new.self) (part path (c.args.name_tag ∷ []) s)) c.span.ensures (search rules) in
    second ∙ ap (λ s. meet s name) first ∙ sym (meets_append old word (name ∷ []))
