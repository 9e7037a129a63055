use Rattle.std.proofs.Common.{◌≡◌, ◌-◌, arith, subst}
use Rattle.std.proofs.lemmas.Result.{err_from_is_err_and}
use Rattle.reflect_wire.specs.Reads.{RefusesFront}
use Rattle.reflect_wire.specs.Records.{IsValue}
use Rattle.reflect_decode.proofs.decode.unknown_at.Goals as goal

pub returns-in_err-field-clause-err : goal.returns-in_err-field-clause-err
returns-in_err-field-clause-err c =
    let r = c.from_residual in
    let p = err_from_is_err_and r.result r.ensures.1 in
    let levels : 100 - c.saturating_sub-depth.result ≡ c.args.raw.levels = omega (arith, c.saturating_sub-depth.ensures, c.args.raw.nested) in
    rw (p.1, p.2) (subst (λ l. RefusesFront (IsValue l c.args.raw.key) c.args.raw.bytes.now c.in_err-field.field-0.0) levels c.in_err-field.ensures.err)
