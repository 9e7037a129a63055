use Rattle.std.proofs.Common.{arith}
use Rattle.std.proofs.lemmas.Result.{IfOk-weaker}
use Rattle.reflect_tables.specs.Ranges.{reserved_range}
use Rattle.reflect_tables.proofs.Furthest.{from_records}
use Rattle.reflect_tables.proofs.ranges.NumberRanges.reserved.Goals as goal

pub returns : goal.returns
returns c =
    IfOk-weaker c.sorted.result _ _
    (λ r. from_records reserved_range c.args.records.now c.turns.record-index c.turns.ranges.items r.ranges.items (omega arith) c.turns.invariant) c.sorted.ensures
