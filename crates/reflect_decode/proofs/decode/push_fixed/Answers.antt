use Rattle.std.proofs.Common.{rules, ◌≢◌, [], subst}
use Rattle.std.proofs.lemmas.Result.{err_from_is_err_and}
use Rattle.reflect_wire.proofs.Reading.{refuses_whole}
use Rattle.reflect_wire.specs.Reads.{Fronts, RefusesFront}
use Rattle.reflect_scalar.specs.Meaning.{IsScalar}
use Rattle.reflect_scalar.specs.Kinds.{wire_type}
use Rattle.reflect_scalar.specs.Singles.{scalar_view}
use Rattle.reflect_decode.specs.Packed.{IsPacked}
use Rattle.reflect_decode.proofs.Packing.{continued, one_more, no_row}
use Rattle.reflect_decode.proofs.decode.push_fixed.Goals as goal

pub returns-in_err-scalar-clause-err : goal.returns-in_err-scalar-clause-err
returns-in_err-scalar-clause-err c =
    let r = c.from_residual in
    let p = err_from_is_err_and r.result r.ensures.1 in
    let some : c.values.rest.now ≢ [] = search rules in
    let row = c.values.invariant in
    let none = subst (λ w. RefusesFront (IsScalar c.args.kind.now w) c.values.rest.now c.in_err-scalar.field-0.0) c.requires.form c.in_err-scalar.ensures.read in
    rw (p.1, p.2) (refuses_whole (IsScalar c.args.kind.now (wire_type c.args.kind.now)) (IsPacked c.args.kind.now) c.values.rest.now c.args.body.now c.in_err-scalar.field-0.0 (λ none vs. no_row c.args.kind.now c.args.body.now c.values.rest.now row.0 row.1 some none vs) none)

pub values-preserved : goal.values-preserved
values-preserved c =
    let row = c.values.invariant in
    let v = scalar_view c.in_ok-scalar.scalar in
    let next = subst (λ w. Fronts (IsScalar c.args.kind.now w) c.values.rest.now v c.in_ok-scalar.behind.now) c.requires.form c.in_ok-scalar.ensures.read in
    let more = one_more c.args.kind.now c.args.body.now c.values.rest.now c.in_ok-scalar.behind.now row.0 v row.1 next in
    let kept = continued _ c.values.values.items row.0 c.in_ok-from_scalar.field-0 v row.2 c.in_ok-from_scalar.ensures in
    (_, more, rw c.in_ok-push.ensures.items kept)
