use Rattle.std.proofs.Common.{inl, subst}
use Rattle.std.proofs.lemmas.Result.{err_from_is_err_and}
use Rattle.reflect_codec.specs.Faults.{InSet}
use Rattle.reflect_codec.specs.Meaning.{IsSet}
use Rattle.reflect_codec.specs.Raw.{fields_view}
use Rattle.reflect_codec.specs.Reading.{ReadsMeant}
use Rattle.reflect_codec.proofs.Parts.{bytes_read}
use Rattle.reflect_codec.proofs.Values.{rejects}
use Rattle.reflect_codec.proofs.codec.decode_set.Goals as goal

pub returns-in_err-fields : goal.returns-in_err-fields
returns-in_err-fields c =
    let p = err_from_is_err_and c.from_residual.result c.from_residual.ensures.1 in
    rw (p.1, p.2) (rejects (λ x w. (w.0, w.1)) (λ fault. inl fault) c.in_err-fields.ensures.read)

pub returns : goal.returns
returns c =
    let fs = fields_view c.in_ok-fields.fields.list.items in
    bytes_read (IsSet 100) (InSet 100) 100 c.args.bytes.now fs c.from_fields.result c.in_ok-fields.ensures.read (subst (λ k. ReadsMeant (IsSet k) (InSet k) fs c.from_fields.result) c.in_ok-fields.ensures.levels c.from_fields.ensures)
