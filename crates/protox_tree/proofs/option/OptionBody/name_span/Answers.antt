use Rattle.std.proofs.Common.{rules, ◌≡◌, ◌<◌, ◌-◌, length, ap, sym, ◌∙◌}
use Rattle.std.specs.Prelude.{get_or}
use Rattle.protox_tree.proofs.Covers.{cover}
use Rattle.protox_lex.specs.Span.{across}
use Rattle.protox_tree.specs.Places.{part_span}
use Rattle.protox_tree.specs.View.{name_part_view}
use Rattle.protox_tree.proofs.option.OptionBody.name_span.Goals as goal

pub returns : goal.returns
returns c =
    let ps = c.args.self.now.name.items in
    let some : 0 < length ps = search rules in
    let first : c.index.result.now ≡ get_or ps 0 c.index.result.now = search rules in
    let last : c.index-2.result.now ≡ get_or ps (length ps - 1) c.index-2.result.now = search rules in
    c.across.ensures
    ∙ sym (cover name_part_view part_span ps c.index.result.now c.index-2.result.now some
    ∙ ap (λ p. across (part_span (name_part_view p)) (part_span (name_part_view (get_or ps (length ps - 1) c.index-2.result.now)))) (sym first)
    ∙ ap (λ p. across (part_span (name_part_view c.index.result.now)) (part_span (name_part_view p))) (sym last)
    ∙ ap (λ s. across s (part_span (name_part_view c.index-2.result.now))) (sym c.span.ensures)
    ∙ ap (λ s. across c.span.result s) (sym c.span-2.ensures))
