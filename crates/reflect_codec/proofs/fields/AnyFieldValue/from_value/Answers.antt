use Rattle.std.proofs.Common.{◌-◌, inl, inr, subst}
use Rattle.std.proofs.lemmas.Result.{err_from_is_err_and}
use Rattle.reflect_codec.specs.Raw.{value_view, fields_view}
use Rattle.reflect_codec.specs.Reading.{ReadsMeant}
use Rattle.reflect_codec.proofs.Parts.{payload_fields, whole_read}
use Rattle.reflect_codec.proofs.Values.{rejects}
use Rattle.reflect_codec.proofs.fields.AnyFieldValue.from_value.Goals as goal

pub returns-in_err-payload : goal.returns-in_err-payload
returns-in_err-payload g c =
    let p = err_from_is_err_and c.from_residual.result c.from_residual.ensures.1 in
    rw (p.1, p.2) (rejects (λ x w. (w.1.0, w.1.1)) (λ fault. inl (inl fault)) c.in_err-payload.ensures.read)

pub returns-in_err-fields : goal.returns-in_err-fields
returns-in_err-fields g c =
    let r = c.from_residual-in_err-fields in
    let p = err_from_is_err_and r.result r.ensures.1 in
    rw (p.1, p.2) (rejects (λ x w. (w.0, payload_fields c.args.levels (c.args.levels - 1) (value_view c.args.value) c.in_ok-payload.payload.now w.0 c.in_ok-payload.ensures.read w.1)) (λ fault. inl (inr (c.in_ok-payload.payload.now, c.in_ok-payload.ensures.read, fault))) c.in_err-fields.ensures.read)

pub returns : goal.returns
returns g c =
    let fs = fields_view c.in_ok-fields.fields.list.items in
    whole_read (g.R.ReadRecord.facts (c.args.levels - 1)) (g.R.ReadRecord.faults (c.args.levels - 1)) c.args.levels (c.args.levels - 1) (value_view c.args.value) fs c.from_fields.result
    (c.in_ok-payload.payload.now, c.in_ok-payload.ensures.read, c.in_ok-fields.ensures.read)
    (subst (λ k. ReadsMeant (g.R.ReadRecord.facts k) (g.R.ReadRecord.faults k) fs c.from_fields.result) c.in_ok-fields.ensures.levels c.from_fields.ensures)
