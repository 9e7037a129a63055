use Rattle.std.proofs.Common.{◌≡◌, ◌+◌, ap, sym, ◌∙◌, take, length, arith, rules}
use Rattle.reflect_declarations.specs.Declarations.{past_file}
use Rattle.reflect_declarations.specs.Batches.{past_files}
use Rattle.reflect_walk.proofs.Batches.{past_more, run_file, kept_more, kept_rest}
use Rattle.reflect_walk.proofs.visit_files.visit_all.Goals as goal

pub turns-preserved : goal.turns-preserved
turns-preserved g c =
    let fs = c.args.files.now in
    let k = c.turns.file-index in
    let f = c.file-item.result in
    let o = c.args.before in
    let v = g.V.Visitor in
    let s = c.args.visitor.now in
    let t = c.turns.visitor in
    let u = c.visit.new.visitor in
    let before = c.turns.invariant in
    let next : c.in_ok-index.index ≡ c.turns.index + 1 = search rules in
    record {
      runs = run_file v.steps o c.turns.offsets c.args.first c.turns.index fs k f s t u c.turns-test.true c.file-item.is before.counts before.index before.runs c.in_ok-offsets.ensures.runs;
      counts = c.in_ok-offsets.ensures.counts ∙ ap (λ p. past_file p f) before.counts ∙ ap (λ x. past_file (past_files o (take k fs)) x) c.file-item.is ∙ sym (past_more o fs k f c.turns-test.true);
      index = omega (arith, next, before.index);
      keeps = kept_more v.kept c.args.first k c.turns.index s t u before.index before.keeps c.visit.ensures.keeps;
    }

pub returns-in_err-offsets-clause-keeps : goal.returns-in_err-offsets-clause-keeps
returns-in_err-offsets-clause-keeps g c =
    let v = g.V.Visitor in
    let s = c.args.visitor.now in
    let u = c.visit.new.visitor in
    let k = c.turns.file-index in
    let before = c.turns.invariant in
    kept_rest v.kept c.args.first g.met.V.Visitor.kept_same (k + 1) (length c.args.files.now) s u (omega (arith, c.turns-test.true))
    (kept_more v.kept c.args.first k c.turns.index s c.turns.visitor u before.index before.keeps c.visit.ensures.keeps)

pub returns-in_err-index-clause-keeps : goal.returns-in_err-index-clause-keeps
returns-in_err-index-clause-keeps g c =
    let v = g.V.Visitor in
    let s = c.args.visitor.now in
    let u = c.visit.new.visitor in
    let k = c.turns.file-index in
    let before = c.turns.invariant in
    kept_rest v.kept c.args.first g.met.V.Visitor.kept_same (k + 1) (length c.args.files.now) s u (omega (arith, c.turns-test.true))
    (kept_more v.kept c.args.first k c.turns.index s c.turns.visitor u before.index before.keeps c.visit.ensures.keeps)
