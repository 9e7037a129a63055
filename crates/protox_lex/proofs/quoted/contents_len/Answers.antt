use Rattle.std.proofs.Common.{◌≡◌, ◌+◌, ◌≤◌, ◌∙◌, sym, subst, ap, arith, length, drop, length-drop}
use Rattle.std.proofs.lemmas.List.{drop-drop, take_rest}
use Rattle.protox_lex.specs.Lex.{contents_len, unit_len}
use Rattle.protox_lex.proofs.Contents.{contents_step, contents_end, contents_none}
use Rattle.protox_lex.proofs.quoted.contents_len.Goals as goal

pub returns-then-len-eq0-clause-value : goal.returns-then-len-eq0-clause-value
returns-then-len-eq0-clause-value c =
    let e = rw take_rest at c.unit_len-len.ensures.value in
    let none = contents_end c.args.quote (drop c.loop-n.n c.args.y.now) (sym e ∙ c.if-len-eq0.true) in
    omega (arith, none, c.loop-n.invariant.same)

pub loop-n-preserved : goal.loop-n-preserved
loop-n-preserved c =
    let q = c.args.quote in
    let n = c.loop-n.n in
    let z = drop n c.args.y.now in
    let r = c.unit_len-len.result in
    let v : r ≡ unit_len q z = rw take_rest at c.unit_len-len.ensures.value in
    let w : r ≤ length z = rw take_rest at c.unit_len-len.ensures.within in
    let step : contents_len q z ≡ r + contents_len q (drop r z) = subst (λ k. contents_len q z ≡ k + contents_len q (drop k z)) (sym v) (contents_step q z (omega arith) (omega arith)) in
    let d : drop r z ≡ drop (n + r) c.args.y.now = drop-drop r n c.args.y.now in
    record {
      same = omega (arith, step, ap (contents_len q) d, c.loop-n.invariant.same);
      within = omega (arith, w, length-drop n c.args.y.now);
    }

pub returns-clause-value : goal.returns-clause-value
returns-clause-value c = omega (arith, c.loop-n.invariant.same, contents_none c.args.quote (drop c.loop-n.n c.args.y.now) (omega (arith, length-drop c.loop-n.n c.args.y.now)))
