use Rattle.std.proofs.Common.{length}
use Rattle.reflect_names.proofs.ReferenceRuns.{resolved_files, stayed}
use Rattle.reflect_names.proofs.resolve_visitor.ResolveVisitor.resolve_files.Goals as goal

pub returns-clause-resolves : goal.returns-clause-resolves
returns-clause-resolves c = resolved_files c.args.self.now c.args.before c.args.first c.args.files.now c.visit_all.new.visitor c.in_ok-behind.ensures.runs

pub returns-clause-keeps : goal.returns-clause-keeps
returns-clause-keeps c = stayed c.args.first (length c.args.files.now) c.args.self.now c.visit_all.new.visitor c.visit_all.ensures.keeps

pub returns-in_err-behind-clause-keeps : goal.returns-in_err-behind-clause-keeps
returns-in_err-behind-clause-keeps c = stayed c.args.first (length c.args.files.now) c.args.self.now c.visit_all.new.visitor c.visit_all.ensures.keeps
