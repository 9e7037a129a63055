use Rattle.std.proofs.Common.{◌+◌, ◌*◌, length}
use Rattle.reflect_wire.specs.Reads.{Fronts}
use Rattle.reflect_wire.specs.Records.{SpellsRecords}
use Rattle.reflect_wire.specs.Views.{records_view}
use Rattle.reflect_wire.proofs.unknown.+value.Given as goal

abbrev pub decreases-group_at : goal.decreases-group_at
decreases-group_at l = 2 * l.levels + 1

abbrev pub decreases-value_at : goal.decreases-value_at
decreases-value_at l = 2 * l.levels

abbrev pub invariant-group_at-loop-fields : goal.invariant-group_at-loop-fields
invariant-group_at-loop-fields l = Fronts (SpellsRecords l.levels) l.bytes (records_view l.fields.items) l.rest

abbrev pub decreases-group_at-loop-fields : goal.decreases-group_at-loop-fields
decreases-group_at-loop-fields l = length l.rest
