use Rattle.std.proofs.lemmas.Result.{err_from_is_err_and}
use Rattle.reflect_scalar.specs.Singles.{wire_view}
use Rattle.reflect_scalar.proofs.Meanings.{meaning_refused}
use Rattle.reflect_scalar.proofs.read_scalar.scalar_at.Goals as goal

pub returns-in_err-value_of-clause-read : goal.returns-in_err-value_of-clause-read
returns-in_err-value_of-clause-read c =
    let p = err_from_is_err_and c.from_residual-in_err-value_of.result c.from_residual-in_err-value_of.ensures.1 in
    rw (p.1, p.2) (meaning_refused c.args.kind.now c.args.wire c.args.bytes.now c.in_ok-written.rest.now (wire_view c.in_ok-written.written) c.in_ok-written.ensures.read
    c.in_err-value_of.field-0.0 c.in_err-value_of.ensures.err)
