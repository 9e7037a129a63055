use Rattle.schema_laws.proofs.OneWay.{set_one_way}
use Rattle.schema_laws.proofs.exact.sets_are_refused_in_one_way.Goals as goal

pub returns-clause-links : goal.returns-clause-links
returns-clause-links c = λ p bytes e f none refused. none.1.0 refused.0 refused.1

pub returns-clause-options : goal.returns-clause-options
returns-clause-options c = λ p bytes e f none refused. none.1.0 refused.0 refused.1

pub returns-clause-either : goal.returns-clause-either
returns-clause-either c = set_one_way
