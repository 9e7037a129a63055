use Rattle.std.proofs.Common.{length}
use Rattle.reflect_declarations.specs.Batches.{batch_declarations}
use Rattle.reflect_names.proofs.NameRuns.{ran, kept, kept_files}
use Rattle.reflect_names.proofs.name_visitor.NameVisitor.declare_files.Goals as goal

pub returns-clause-known : goal.returns-clause-known
returns-clause-known c = (ran c.args.self.now (batch_declarations c.args.before c.args.first c.args.files.now) c.visit_all.new.visitor c.in_ok-behind.ensures.runs).known

pub returns-clause-faults : goal.returns-clause-faults
returns-clause-faults c = (ran c.args.self.now (batch_declarations c.args.before c.args.first c.args.files.now) c.visit_all.new.visitor c.in_ok-behind.ensures.runs).faults

pub returns-clause-keeps : goal.returns-clause-keeps
returns-clause-keeps c = kept c.args.first (length c.args.files.now) c.args.self.now c.visit_all.new.visitor c.visit_all.ensures.keeps

pub returns-in_err-behind-clause-keeps : goal.returns-in_err-behind-clause-keeps
returns-in_err-behind-clause-keeps c = kept c.args.first (length c.args.files.now) c.args.self.now c.visit_all.new.visitor c.visit_all.ensures.keeps

pub returns-clause-file_names : goal.returns-clause-file_names
returns-clause-file_names c = kept_files c.args.first (length c.args.files.now) c.args.self.now c.visit_all.new.visitor c.visit_all.ensures.keeps

pub returns-in_err-behind-clause-file_names : goal.returns-in_err-behind-clause-file_names
returns-in_err-behind-clause-file_names c = kept_files c.args.first (length c.args.files.now) c.args.self.now c.visit_all.new.visitor c.visit_all.ensures.keeps
