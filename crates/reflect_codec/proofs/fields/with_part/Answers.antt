use Rattle.std.proofs.Common.{inl}
use Rattle.std.proofs.lemmas.Result.{err_from_is_err_and}
use Rattle.reflect_codec.specs.Raw.{value_view, fields_view}
use Rattle.reflect_codec.proofs.Parts.{part_read}
use Rattle.reflect_codec.proofs.Values.{rejects}
use Rattle.reflect_codec.proofs.fields.with_part.Goals as goal

pub returns-in_err-payload : goal.returns-in_err-payload
returns-in_err-payload c =
    let p = err_from_is_err_and c.from_residual.result c.from_residual.ensures.1 in
    rw (p.1, p.2) (rejects (λ fs h. (h.0, h.1)) (λ fault. inl fault) c.in_err-payload.ensures.read)

pub returns : goal.returns
returns c = part_read c.args.outside c.args.inside (fields_view c.args.fields.items) (value_view c.args.value) c.in_ok-payload.payload.now c.with_fields.result c.in_ok-payload.ensures.read c.with_fields.ensures
