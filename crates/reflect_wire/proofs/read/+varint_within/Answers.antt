use Rattle.std.proofs.Common.{◌≡◌, ◌+◌, ◌-◌, subst, arith}
use Rattle.std.proofs.lemmas.Result.{err_from_is_err_and}
use Rattle.reflect_wire.specs.Reads.{NoFront}
use Rattle.reflect_wire.specs.Varint.{IsVarintWithin}
use Rattle.reflect_wire.specs.Faults.{VarintFault}
use Rattle.reflect_wire.specs.declared.wire_error.WireError.TheVariants.{BadVarint}
use Rattle.reflect_wire.proofs.Faulty.{one_too_many, fault_behind, overlarge}
use Rattle.reflect_wire.proofs.Reading.{refuses_more}
use Rattle.reflect_wire.proofs.Varints.{last_byte, none_left, inner_refused, too_large, joined}
use Rattle.reflect_wire.proofs.read.+varint_within.Goals as goal

pub returns-then-low-lt128-clause-read : goal.returns-then-low-lt128-clause-read
returns-then-low-lt128-clause-read t c = rw c.from.ensures (last_byte c.args.left c.in-Some.first.now c.args.bytes.now c.in-Some.rest.now c.in-Some.ensures.cases.0 c.if-low-lt128.true)

pub returns-then-left-eq0-clause-read : goal.returns-then-left-eq0-clause-read
returns-then-left-eq0-clause-read t c =
    let one : 1 ≡ c.args.left + 1 = omega arith in
    subst (λ n. NoFront (IsVarintWithin n) c.args.bytes.now) one (none_left c.in-Some.first.now c.args.bytes.now c.in-Some.rest.now c.in-Some.ensures.cases.0 c.if-low-lt128.false)

pub returns-in_err-high-clause-read : goal.returns-in_err-high-clause-read
returns-in_err-high-clause-read t c =
    let p = err_from_is_err_and c.from_residual.result c.from_residual.ensures.1 in
    rw (p.1, p.2) (refuses_more _ _ _ _ c.in_err-high.field-0.0
    (inner_refused (c.args.left - 1 + 1) (c.args.left + 1) c.in-Some.first.now c.args.bytes.now c.in-Some.rest.now (omega arith) c.in-Some.ensures.cases.0 c.if-low-lt128.false)
    c.in_err-high.ensures.read)

pub returns-then-high-clause-read : goal.returns-then-high-clause-read
returns-then-high-clause-read t c = too_large (c.args.left - 1 + 1) (c.args.left + 1) c.in-Some.first.now c.in_ok-high.high c.args.bytes.now c.in-Some.rest.now c.in_ok-high.rest.now
    (omega arith) c.in-Some.ensures.cases.0 c.if-low-lt128.false c.in_ok-high.ensures.read (omega arith)

pub returns-clause-read : goal.returns-clause-read
returns-clause-read t c = rw c.from-2.ensures (joined (c.args.left - 1 + 1) (c.args.left + 1) c.in-Some.first.now c.in_ok-high.high c.args.bytes.now c.in-Some.rest.now c.in_ok-high.rest.now
    (omega arith) c.in-Some.ensures.cases.0 c.if-low-lt128.false (omega arith) c.in_ok-high.ensures.read (omega arith))

pub returns-then-left-eq0-clause-fault : goal.returns-then-left-eq0-clause-fault
returns-then-left-eq0-clause-fault t c =
    let one : 1 ≡ c.args.left + 1 = omega arith in
    subst (λ n. VarintFault n c.args.bytes.now BadVarint) one (one_too_many c.in-Some.first.now c.args.bytes.now c.in-Some.rest.now c.in-Some.ensures.cases.0 c.if-low-lt128.false)

pub returns-in_err-high-clause-fault : goal.returns-in_err-high-clause-fault
returns-in_err-high-clause-fault t c =
    let p = err_from_is_err_and c.from_residual.result c.from_residual.ensures.1 in
    rw (p.1, p.2) (fault_behind (c.args.left - 1 + 1) (c.args.left + 1) c.in-Some.first.now c.args.bytes.now c.in-Some.rest.now c.in_err-high.field-0.0 (omega arith) c.in-Some.ensures.cases.0 c.if-low-lt128.false c.in_err-high.ensures.fault)

pub returns-then-high-clause-fault : goal.returns-then-high-clause-fault
returns-then-high-clause-fault t c = overlarge (c.args.left - 1 + 1) (c.args.left + 1) c.in-Some.first.now c.in_ok-high.high c.args.bytes.now c.in-Some.rest.now c.in_ok-high.rest.now
    c.in-Some.ensures.cases.0 c.if-low-lt128.false c.in_ok-high.ensures.read (omega arith)
