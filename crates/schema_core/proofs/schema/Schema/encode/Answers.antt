use Rattle.std.proofs.Common.{refl, subst}
use Rattle.std.proofs.lemmas.Result.{err_from_is_err_and}
use Rattle.reflect_format.specs.Truth.{TrueOf}
use Rattle.schema_core.proofs.RefusedInputs.{of_text_kind, unknown_text}
use Rattle.schema_core.proofs.schema.Schema.encode.Goals as goal

pub returns-in_err-message-clause-err : goal.returns-in_err-message-clause-err
returns-in_err-message-clause-err c =
    let r = c.from_residual-in_err-message in
    let p = err_from_is_err_and r.result r.ensures.1 in
    let type = c.in_ok-descriptor.ensures in
    let e = c.in_err-message.field-0.0 in
    rw (p.1, p.2) (of_text_kind c.args.self.now.pool c.args.type_name.now c.args.text.now e e.kind refl
    (c.in_ok-descriptor.descriptor, (type.pool, type.ok), c.in_err-message.ensures.cause, subst (λ pool. TrueOf pool e.kind) type.pool c.in_err-message.ensures.refused, c.in_err-message.ensures.told))

pub returns-clause-ok : goal.returns-clause-ok
returns-clause-ok c =
    let type = c.in_ok-descriptor.ensures in
    (c.in_ok-descriptor.descriptor, (type.pool, type.ok), (c.in_ok-message.message, c.in_ok-message.ensures.made, c.in_ok-encode_to_vec.ensures.ok))

pub returns-in_err-descriptor-clause-err : goal.returns-in_err-descriptor-clause-err
returns-in_err-descriptor-clause-err c =
    let p = err_from_is_err_and c.from_residual.result c.from_residual.ensures.1 in
    rw (p.1, p.2) (unknown_text c.args.self.now.pool c.args.type_name.now c.args.text.now c.in_err-descriptor.field-0.0 c.in_err-descriptor.ensures.err)
