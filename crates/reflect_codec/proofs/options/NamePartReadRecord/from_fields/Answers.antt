use Rattle.std.proofs.Common.{inl, inr, refl}
use Rattle.std.proofs.lemmas.Result.{err_from_is_err_and}
use Rattle.reflect_codec.proofs.Values.{rejects}
use Rattle.reflect_codec.proofs.options.NamePartReadRecord.from_fields.Goals as goal

pub returns-in_err-name_part : goal.returns-in_err-name_part
returns-in_err-name_part c =
    let p = err_from_is_err_and c.from_residual.result c.from_residual.ensures.1 in
    rw (p.1, p.2) (rejects (λ r m. (m.name_part.0, m.name_part.1)) (λ fault. record { why = inl (1, refl, fault) }) c.in_err-name_part.ensures)

pub returns-in_err-is_extension : goal.returns-in_err-is_extension
returns-in_err-is_extension c =
    let p = err_from_is_err_and c.from_residual-in_err-is_extension.result c.from_residual-in_err-is_extension.ensures.1 in
    rw (p.1, p.2) (rejects (λ r m. (m.is_extension.0, m.is_extension.1)) (λ fault. record { why = inr (2, refl, fault) }) c.in_err-is_extension.ensures)
