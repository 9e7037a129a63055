use Rattle.std.proofs.Common.{subst}
use Rattle.std.proofs.lemmas.Result.{err_from_is_err_and}
use Rattle.reflect_pool.specs.Linked.{empty_pool}
use Rattle.reflect_build.specs.Refusals.{AreRefused}
use Rattle.reflect_bytes.specs.Spelled.{RecordsLinked}
use Rattle.reflect_bytes.proofs.Refused.{of_link}
use Rattle.reflect_bytes.proofs.pool_ext.DescriptorPoolPoolExt.from_file_descriptor_set.Goals as goal

pub returns-in_err-build_files-clause-err : goal.returns-in_err-build_files-clause-err
returns-in_err-build_files-clause-err c =
    let p = err_from_is_err_and c.from_residual.result c.from_residual.ensures.1 in
    rw p.1 (of_link empty_pool c.args.set.file.items c.in_err-build_files.field-0.0 _ (subst (λ pool. AreRefused pool c.args.set.file.items c.in_err-build_files.field-0.0) c.new-pool.ensures c.in_err-build_files.ensures.refused) p.2)

pub returns-clause-linked : goal.returns-clause-linked
returns-clause-linked c = subst (λ pool. RecordsLinked pool c.args.set.file.items c.build_files.new.self) c.new-pool.ensures (c.in_ok-build_files.ensures.added, c.in_ok-build_files.ensures.accepted, c.in_ok-build_files.ensures.too_many)
