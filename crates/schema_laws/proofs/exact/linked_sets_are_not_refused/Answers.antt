use Rattle.schema_laws.proofs.TakenOptions.{set_taken}
use Rattle.schema_laws.proofs.TakenOrRefused.{sets_not_both}
use Rattle.schema_laws.proofs.exact.linked_sets_are_not_refused.Goals as goal

pub returns-clause-spelled : goal.returns-clause-spelled
returns-clause-spelled c = λ p q new bytes e linked refused. refused.1.1.0 linked.0 linked.1

pub returns-clause-short : goal.returns-clause-short
returns-clause-short c = λ p q new bytes linked refused. refused.1.0 linked.0 linked.1

pub returns-clause-linked : goal.returns-clause-linked
returns-clause-linked c = sets_not_both

pub returns-clause-options : goal.returns-clause-options
returns-clause-options c = set_taken
