use Rattle.std.proofs.Common.{◌≡◌, ℤ, ◌+◌, List, ap, arith, subst, ◌∙◌, to_z, of_z, w32, length, refl}
use Rattle.std.proofs.lemmas.Int.{to_z-of_z}
use Rattle.std.proofs.lemmas.Result.{err_from_is_err_and}
use Rattle.reflect_declarations.specs.Declarations.{Runs, each, entry}
use Rattle.reflect_walk.specs.Items.{placed}
use Rattle.reflect_walk.proofs.Walks.{run_all, run_more}
use Rattle.reflect_walk.proofs.item.visit_items.Goals as goal

pub turns-init : goal.turns-init
turns-init g c = record { runs = refl; counts = omega arith; keeps = g.met.V.Visitor.kept_same c.args.file c.args.visitor.now }

pub turns-preserved : goal.turns-preserved
turns-preserved g c =
    let R = g.V.Visitor.steps in
    let declared = g.I.Item.declared in
    let xs = c.deref-item-items.result.now in
    let k = c.turns.at in
    let x = c.item-item.result in
    let path : List ℤ = c.args.path.now in
    let tag : ℤ = to_z w32 (of_z w32 c.args.tag) in
    let scope = c.args.scope.now in
    let file = c.args.file in
    let parent = c.args.parent in
    let first = c.args.count.now in
    let place : c.as_slice.result.now ≡ entry path tag k = c.as_slice.ensures.value ∙ c.in_ok-place.ensures.path in
    let number = c.in_ok-number.ensures.index ∙ c.turns.invariant.counts in
    let now = subst (λ p. Runs R c.turns.visitor (declared p scope file parent (first + k) x) c.visit.new.visitor) place
    (subst (λ n. Runs R c.turns.visitor (declared c.as_slice.result.now scope file parent n x) c.visit.new.visitor) number c.in_ok-visit.ensures.runs) in
    record {
      runs = run_more R (placed declared path tag scope file parent first) xs k x _ _ _ (omega arith) c.item-item.is c.turns.invariant.runs now;
      counts = let more = c.in_ok-number.ensures.more in let was = c.turns.invariant.counts in omega (arith, more, was);
      keeps = g.met.V.Visitor.kept_on c.args.file _ _ _ c.turns.invariant.keeps c.visit.ensures.keeps;
    }

pub returns : goal.returns
returns g c =
    let R = g.V.Visitor.steps in
    let xs = c.deref-item-items.result.now in
    let ys = c.args.items.now.items in
    let k = c.turns.at in
    let is : xs ≡ ys = c.deref-item-items.ensures.value in
    let long : length xs ≡ length ys = ap length is in
    let one = λ (tag : ℤ). placed g.I.Item.declared c.args.path.now tag c.args.scope.now c.args.file c.args.parent c.args.count.now in
    record {
      runs = subst (λ tag. Runs R c.args.visitor.now (each (one tag) 0 ys) c.turns.visitor) (to_z-of_z w32 c.args.tag c.ranges.tag)
          (run_all R (one (to_z w32 (of_z w32 c.args.tag))) k xs ys _ _ (omega arith) is c.turns.invariant.runs);
      counts = let was = c.turns.invariant.counts in omega (arith, was, long);
      keeps = c.turns.invariant.keeps;
    }

pub returns-in_err-place : goal.returns-in_err-place
returns-in_err-place g c =
    let r = c.from_residual in
    let p = err_from_is_err_and r.result r.ensures.1 in
    rw p.1 (record { runs = tt; counts = tt; keeps = c.turns.invariant.keeps })

pub returns-in_err-number : goal.returns-in_err-number
returns-in_err-number g c =
    let r = c.from_residual-in_err-number in
    let p = err_from_is_err_and r.result r.ensures.1 in
    rw p.1 (record { runs = tt; counts = tt; keeps = c.turns.invariant.keeps })

pub returns-in_err-visit : goal.returns-in_err-visit
returns-in_err-visit g c =
    let r = c.from_residual-in_err-visit in
    let p = err_from_is_err_and r.result r.ensures.1 in
    rw p.1 (record { runs = tt; counts = tt; keeps = g.met.V.Visitor.kept_on c.args.file _ _ _ c.turns.invariant.keeps c.visit.ensures.keeps })
