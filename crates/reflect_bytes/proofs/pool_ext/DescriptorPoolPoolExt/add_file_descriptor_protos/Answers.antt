use Rattle.std.proofs.lemmas.Result.{err_from_is_err_and}
use Rattle.reflect_bytes.proofs.Refused.{of_link}
use Rattle.reflect_bytes.proofs.pool_ext.DescriptorPoolPoolExt.add_file_descriptor_protos.Goals as goal

pub returns-in_err-build_files-clause-err : goal.returns-in_err-build_files-clause-err
returns-in_err-build_files-clause-err c =
    let p = err_from_is_err_and c.from_residual.result c.from_residual.ensures.1 in
    rw p.1 (of_link c.args.self.now c.args.files.items _ _ c.in_err-build_files.ensures.refused p.2)

pub returns-clause-linked : goal.returns-clause-linked
returns-clause-linked c = (c.in_ok-build_files.ensures.added, c.in_ok-build_files.ensures.accepted, c.in_ok-build_files.ensures.too_many)
