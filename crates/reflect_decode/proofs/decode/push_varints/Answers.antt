use Rattle.std.proofs.Common.{rules, ◌≢◌, []}
use Rattle.std.proofs.lemmas.Result.{err_from_is_err_and}
use Rattle.reflect_wire.proofs.Faulty.{tells_fault}
use Rattle.reflect_wire.proofs.Reading.{refuses_whole}
use Rattle.reflect_wire.specs.Varint.{IsVarint}
use Rattle.reflect_scalar.specs.Singles.{scalar_view}
use Rattle.reflect_decode.specs.Packed.{IsPacked, PackedFault}
use Rattle.reflect_decode.proofs.Packing.{continued, means_something, no_row, no_scalar, number_fault, one_more, scalar_of_varint}
use Rattle.reflect_decode.proofs.decode.push_varints.Goals as goal

pub returns-in_err-n-clause-err : goal.returns-in_err-n-clause-err
returns-in_err-n-clause-err c =
    let r = c.from_residual in
    let p = err_from_is_err_and r.result r.ensures.1 in
    let some : c.values.rest.now ≢ [] = search rules in
    let row = c.values.invariant in
    rw (p.1, p.2) (refuses_whole IsVarint (IsPacked c.args.kind.now) c.values.rest.now c.args.body.now c.in_err-n.field-0.0
    (λ none vs. no_row c.args.kind.now c.args.body.now c.values.rest.now row.0 row.1 some (no_scalar c.args.kind.now c.requires.varints c.values.rest.now none) vs) c.in_err-n.ensures.read)

pub returns-in_err-n-clause-fault : goal.returns-in_err-n-clause-fault
returns-in_err-n-clause-fault c =
    let r = c.from_residual in
    let p = err_from_is_err_and r.result r.ensures.1 in
    let some : c.values.rest.now ≢ [] = search rules in
    let row = c.values.invariant in
    let fault = number_fault c.args.kind.now c.requires.varints c.values.rest.now c.in_err-n.field-0.0 c.in_err-n.ensures.fault in
    rw (p.1, p.2) (tells_fault (PackedFault c.args.kind.now) c.args.body.now c.in_err-n.field-0.0 (row.0, (c.values.rest.now, row.1, some, fault)))

pub returns-in_err-scalar-clause-err : goal.returns-in_err-scalar-clause-err
returns-in_err-scalar-clause-err c = absurd (means_something c.args.kind.now c.requires.varints c.in_ok-n.n c.in_err-scalar.field-0.0 c.in_err-scalar.ensures.err)

pub returns-in_err-scalar-clause-fault : goal.returns-in_err-scalar-clause-fault
returns-in_err-scalar-clause-fault c = absurd (means_something c.args.kind.now c.requires.varints c.in_ok-n.n c.in_err-scalar.field-0.0 c.in_err-scalar.ensures.err)

pub values-preserved : goal.values-preserved
values-preserved c =
    let row = c.values.invariant in
    let v = scalar_view c.in_ok-scalar.scalar in
    let next = scalar_of_varint c.args.kind.now c.requires.varints c.values.rest.now c.in_ok-n.behind.now c.in_ok-n.n v c.in_ok-n.ensures.read c.in_ok-scalar.ensures.ok in
    let more = one_more c.args.kind.now c.args.body.now c.values.rest.now c.in_ok-n.behind.now row.0 v row.1 next in
    let kept = continued _ c.values.values.items row.0 c.in_ok-from_scalar.field-0 v row.2 c.in_ok-from_scalar.ensures in
    (_, more, rw c.in_ok-push.ensures.items kept)
