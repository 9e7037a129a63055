use Rattle.std.proofs.Common.{◌≡◌, ◌<◌, ◌+◌, suc, ◌∙◌, ◌++◌, ap, drop, get_or, length, map, set, subst, take, arith}
use Rattle.reflect_faults.specs.FaultPlaces.{located_of, moved}
use Rattle.reflect_passes.proofs.Each.{one_more}
use Rattle.reflect_passes.proofs.error.locate_others.Goals as goal

pub loop-fault-preserved : goal.loop-fault-preserved
loop-fault-preserved c =
    let at = moved (located_of c.args.file.now c.args.source.now) in
    let faults = c.args.faults.now.items in
    let k = c.loop-fault.fault-index in
    let x = c.fault-item.result in
    let y = c.resolve_span.new.self in
    let before = c.loop-fault.invariant in
    let lt = subst (λ l. k < length l) c.deref_mut-fault-items.ensures.value c.loop-fault-test.true in
    let is = c.resolve_span.ensures ∙ ap (λ l. at (get_or l k x)) before in
    let next : suc k ≡ k + 1 = omega arith in
    ap (λ l. set l k y) before ∙ one_more at faults k x y lt is
    ∙ ap (λ n. map at (take n faults) ++ drop n faults) next
