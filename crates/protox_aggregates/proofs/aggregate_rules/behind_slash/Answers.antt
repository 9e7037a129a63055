use Rattle.protox_aggregates.proofs.Written.{writes_then}
use Rattle.protox_aggregates.proofs.aggregate_rules.behind_slash.Goals as goal
use Rattle.protox_aggregates.proofs.aggregate_rules.behind_slash.Goals.{then-branch+in_ok-full_ident, else-branch}

pub returns-clause-writes : goal.returns-clause-writes
returns-clause-writes c = elim c.if-branch.branch [
  | then-branch+in_ok-full_ident w ↦ rw (w.tokens-is, w.text-is) (writes_then c.in_ok-eat.ensures.writes w.in_ok-full_ident.ensures.writes)
  | else-branch w ↦ rw (w.tokens-is, w.text-is) c.in_ok-eat.ensures.writes
]
