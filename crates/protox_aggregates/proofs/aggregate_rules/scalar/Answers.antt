use Rattle.protox_aggregates.proofs.Written.{then_ok}
use Rattle.protox_aggregates.proofs.aggregate_rules.scalar.Goals as goal

pub returns-clause-writes : goal.returns-clause-writes
returns-clause-writes c = then_ok _ _ c.plain.result c.in_ok-eat.ensures.writes c.plain.ensures.writes
