use Rattle.std.proofs.Common.{refl}
use Rattle.std.proofs.lemmas.Result.{err_from_is_err_and}
use Rattle.reflect_codec.proofs.Values.{rejects}
use Rattle.reflect_codec.proofs.enums.EnumReservedRangeReadRecord.from_fields.Goals as goal

pub returns-in_err-last : goal.returns-in_err-last
returns-in_err-last c =
    let p = err_from_is_err_and c.from_residual.result c.from_residual.ensures.1 in
    rw (p.1, p.2) (rejects (λ r m. (r.start, m.start)) (λ fault. record { why = (1, refl, fault) }) c.in_err-last.ensures)

pub returns-in_err-last-2 : goal.returns-in_err-last-2
returns-in_err-last-2 c =
    let p = err_from_is_err_and c.from_residual-in_err-last-2.result c.from_residual-in_err-last-2.ensures.1 in
    rw (p.1, p.2) (rejects (λ r m. (r.end, m.end)) (λ fault. record { why = (2, refl, fault) }) c.in_err-last-2.ensures)
