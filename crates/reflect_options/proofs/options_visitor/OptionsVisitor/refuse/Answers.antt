use Rattle.std.proofs.Common.{refl}
use Rattle.reflect_options.proofs.options_visitor.OptionsVisitor.refuse.Goals as goal

pub returns-clause-noted : goal.returns-clause-noted
returns-clause-noted c = (refl, c.in_ok-path.ensures)
