use Rattle.std.proofs.Common.{◌≡◌, [], ◌∷◌, subst, rules}
use Rattle.std.proofs.lemmas.Result.{err_from_is_err_and}
use Rattle.reflect_build.specs.Refusals.{AreRefused}
use Rattle.reflect_bytes.specs.Spelled.{RecordsLinked}
use Rattle.reflect_bytes.proofs.Refused.{of_link}
use Rattle.reflect_bytes.proofs.pool_ext.DescriptorPoolPoolExt.add_file_descriptor_proto.Goals as goal

pub returns-in_err-build_files-clause-err : goal.returns-in_err-build_files-clause-err
returns-in_err-build_files-clause-err c =
    let r = c.from_residual-in_err-build_files in
    let p = err_from_is_err_and r.result r.ensures.1 in
    let pushed : c.push.new.self.items ≡ c.args.file ∷ [] = search rules in
    rw p.1 (of_link c.args.self.now (c.args.file ∷ []) c.in_err-build_files.field-0.0 _ (subst (λ files. AreRefused c.args.self.now files c.in_err-build_files.field-0.0) pushed c.in_err-build_files.ensures.refused) p.2)

pub returns-clause-linked : goal.returns-clause-linked
returns-clause-linked c =
    let pushed : c.push.new.self.items ≡ c.args.file ∷ [] = search rules in
    subst (λ files. RecordsLinked c.args.self.now files c.build_files.new.self) pushed (c.in_ok-build_files.ensures.added, c.in_ok-build_files.ensures.accepted, c.in_ok-build_files.ensures.too_many)
