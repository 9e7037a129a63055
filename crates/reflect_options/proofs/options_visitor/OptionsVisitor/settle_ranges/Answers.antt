use Rattle.std.proofs.Common.{◌≡◌, ◌∙◌, ◌+◌, ◌++◌, ap, sym, subst, take}
use Rattle.reflect_declarations.specs.Declarations.{Runs, each}
use Rattle.reflect_options.specs.Entities.{range_at}
use Rattle.reflect_options.specs.Visiting.{Passes}
use Rattle.reflect_walk.proofs.Walks.{each_more, runs_append}
use Rattle.reflect_options.proofs.options_visitor.OptionsVisitor.settle_ranges.Goals as goal

pub turns-preserved : goal.turns-preserved
turns-preserved c =
    let one = range_at c.args.file c.args.path.now c.args.name.now in
    let rs = c.args.ranges.now in
    let k = c.turns.place in
    let x = c.index-ranges-place.result in
    let more : each one 0 (take (k + 1) rs) ≡ each one 0 (take k rs) ++ one k x = each_more one rs k x c.turns-test.true ∙ ap (λ r. each one 0 (take k rs) ++ one k r) (sym c.index-ranges-place.is) in
    subst (λ l. Runs Passes c.args.self.now l c.settle_range.new.self) (sym more)
    (runs_append Passes (each one 0 (take k rs)) (one k x) c.args.self.now c.turns.self c.settle_range.new.self c.turns.invariant c.in_ok-settle_range.ensures)
