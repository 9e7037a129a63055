use Rattle.std.proofs.Common.{refl}
use Rattle.std.proofs.lemmas.Result.{err_from_is_err_and, IfErr-weaker, on_ok_weaker}
use Rattle.schema_core.specs.Refusals.{FilesRefused, SetRefused}
use Rattle.schema_core.proofs.Refused.{of_set, of_bytes}
use Rattle.schema_core.proofs.schema.Schema.add_descriptor_set.Goals as goal

pub returns-in_err-set-clause-err : goal.returns-in_err-set-clause-err
returns-in_err-set-clause-err c =
    let p = err_from_is_err_and c.from_residual.result c.from_residual.ensures.1 in
    rw (p.1, p.2) (of_bytes c.args.self.now.pool c.args.bytes.now _ c.in_err-set.ensures)

pub returns-clause-linked : goal.returns-clause-linked
returns-clause-linked c = on_ok_weaker c.add_batch.result (λ l. (c.in_ok-set.set.file.items, (c.in_ok-set.set, c.in_ok-set.ensures, refl), l)) c.add_batch.ensures.linked

pub returns-clause-err : goal.returns-clause-err
returns-clause-err c =
    let p = c.args.self.now.pool in
    let files = c.in_ok-set.set.file.items in
    IfErr-weaker c.add_batch.result (FilesRefused p files) (SetRefused p c.args.bytes.now) (λ e. of_set p c.args.bytes.now files e (c.in_ok-set.set, c.in_ok-set.ensures, refl)) c.add_batch.ensures.err
