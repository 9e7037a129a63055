use Rattle.protox_aggregates.proofs.Written.{then_ok, writes_then}
use Rattle.protox_aggregates.proofs.aggregate_rules.name.Goals as goal

pub returns-clause-writes : goal.returns-clause-writes
returns-clause-writes c =
    then_ok _ _ c.expect.result (writes_then c.in_ok-eat.ensures.writes (writes_then c.in_ok-full_ident.ensures.writes c.in_ok-behind_slash.ensures.writes))
    c.expect.ensures.writes
