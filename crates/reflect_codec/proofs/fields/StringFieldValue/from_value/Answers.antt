use Rattle.std.proofs.Common.{inl}
use Rattle.std.proofs.lemmas.Result.{err_from_is_err_and}
use Rattle.reflect_codec.proofs.Values.{rejects, text_is_payload}
use Rattle.reflect_codec.proofs.fields.StringFieldValue.from_value.Goals as goal

pub returns-in_err-payload : goal.returns-in_err-payload
returns-in_err-payload c =
    let p = err_from_is_err_and c.from_residual.result c.from_residual.ensures.1 in
    rw (p.1, p.2) (rejects (λ s h. text_is_payload _ _ h) (λ fault. inl fault) c.in_err-payload.ensures.read)
