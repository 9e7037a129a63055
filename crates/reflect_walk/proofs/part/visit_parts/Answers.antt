use Rattle.std.proofs.Common.{arith, refl, subst}
use Rattle.std.proofs.lemmas.Result.{err_from_is_err_and}
use Rattle.reflect_declarations.specs.Declarations.{Runs}
use Rattle.reflect_walk.proofs.Walks.{run_all, run_more}
use Rattle.reflect_walk.proofs.part.visit_parts.Goals as goal

pub turns-init : goal.turns-init
turns-init g c = record { runs = refl; keeps = g.met.V.Visitor.kept_same c.args.file c.args.visitor.now }

pub visit-requires : goal.visit-requires
visit-requires g c = c.in_ok-index.ensures.fits

pub turns-preserved : goal.turns-preserved
turns-preserved g c =
    let R = g.V.Visitor.steps in
    let xs = c.deref-part-items.result.now in
    let k = c.turns.at in
    let x = c.part-item.result in
    let one = g.P.Part.declared c.args.path.now c.args.scope.now c.args.file c.args.holder in
    let now = subst (λ i. Runs R c.turns.visitor (one i x) c.visit.new.visitor) c.in_ok-index.ensures.same c.in_ok-visit.ensures.runs in
    record {
      runs = run_more R one xs k x _ _ _ (omega arith) c.part-item.is c.turns.invariant.runs now;
      keeps = g.met.V.Visitor.kept_on c.args.file _ _ _ c.turns.invariant.keeps c.visit.ensures.keeps;
    }

pub returns : goal.returns
returns g c =
    let one = g.P.Part.declared c.args.path.now c.args.scope.now c.args.file c.args.holder in
    record {
      runs = run_all g.V.Visitor.steps one c.turns.at c.deref-part-items.result.now c.args.parts.now.items _ _ (omega arith) c.deref-part-items.ensures.value c.turns.invariant.runs;
      keeps = c.turns.invariant.keeps;
    }

pub returns-in_err-index : goal.returns-in_err-index
returns-in_err-index g c =
    let p = err_from_is_err_and c.from_residual.result c.from_residual.ensures.1 in
    rw p.1 (record { runs = tt; keeps = c.turns.invariant.keeps })

pub returns-in_err-visit : goal.returns-in_err-visit
returns-in_err-visit g c =
    let r = c.from_residual-in_err-visit in
    let p = err_from_is_err_and r.result r.ensures.1 in
    rw p.1 (record { runs = tt; keeps = g.met.V.Visitor.kept_on c.args.file _ _ _ c.turns.invariant.keeps c.visit.ensures.keeps })
