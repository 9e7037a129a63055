use Rattle.std.proofs.Common.{◌∙◌}
use Rattle.reflect_link.specs.FileTypes.{no_file}
use Rattle.reflect_link.proofs.FileNames.{names_there}
use Rattle.reflect_link.proofs.file.FileDescriptor.dependencies.Goals as goal

pub returns-clause-names : goal.returns-clause-names
returns-clause-names c = names_there c.args.self.now.pool.now c.imports_of.result.now ∙ c.imports_of.ensures.names no_file
