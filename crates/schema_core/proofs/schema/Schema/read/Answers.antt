use Rattle.std.proofs.lemmas.Result.{err_from_is_err_and}
use Rattle.schema_core.proofs.RefusedInputs.{of_message, unknown_bytes}
use Rattle.schema_core.proofs.schema.Schema.read.Goals as goal

pub returns-clause-ok : goal.returns-clause-ok
returns-clause-ok c =
    let type = c.in_ok-descriptor.ensures in
    let read = c.in_ok-decode.ensures in
    (c.in_ok-descriptor.descriptor, (type.pool, type.ok), read.same_type, read.exclusive, read.read)

pub returns-in_err-decode-clause-err : goal.returns-in_err-decode-clause-err
returns-in_err-decode-clause-err c =
    let type = c.in_ok-descriptor.ensures in
    let r = c.from_residual-in_err-decode in
    let p = err_from_is_err_and r.result r.ensures.1 in
    rw (p.1, p.2) (of_message c.args.self.now.pool c.args.type_name.now c.args.bytes.now c.in_ok-descriptor.descriptor c.in_err-decode.field-0.0 (type.pool, type.ok) c.in_err-decode.ensures.fault)

pub returns-in_err-descriptor-clause-err : goal.returns-in_err-descriptor-clause-err
returns-in_err-descriptor-clause-err c =
    let p = err_from_is_err_and c.from_residual.result c.from_residual.ensures.1 in
    rw (p.1, p.2) (unknown_bytes c.args.self.now.pool c.args.type_name.now c.args.bytes.now c.in_err-descriptor.field-0.0 c.in_err-descriptor.ensures.err)
