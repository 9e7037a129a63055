use Rattle.std.proofs.Common.{inl, inr, refl}
use Rattle.std.proofs.lemmas.Result.{err_from_is_err_and}
use Rattle.reflect_codec.proofs.Values.{rejects}
use Rattle.reflect_codec.proofs.field.OneofDescriptorProtoReadRecord.from_fields.Goals as goal

pub returns-in_err-last : goal.returns-in_err-last
returns-in_err-last c =
    let p = err_from_is_err_and c.from_residual.result c.from_residual.ensures.1 in
    rw (p.1, p.2) (rejects (λ r m. (r.name, m.name)) (λ fault. record { why = inl (1, refl, fault) }) c.in_err-last.ensures)

pub returns-in_err-options : goal.returns-in_err-options
returns-in_err-options c =
    let p = err_from_is_err_and c.from_residual-in_err-options.result c.from_residual-in_err-options.ensures.1 in
    rw (p.1, p.2) (rejects (λ r m. (r.options, m.options)) (λ fault. record { why = inr fault }) c.in_err-options.ensures)
