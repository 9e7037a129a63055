use Rattle.std.proofs.Common.{length}
use Rattle.reflect_wire.specs.Reads.{Fronts}
use Rattle.reflect_wire.specs.Records.{SpellsRecords}
use Rattle.reflect_wire.specs.Views.{set_view}
use Rattle.reflect_wire.proofs.unknown.UnknownFieldSet.decode.Given as goal

abbrev pub invariant-loop-rest : goal.invariant-loop-rest
invariant-loop-rest l = Fronts (SpellsRecords 100) l.bytes (set_view l.set) l.rest

abbrev pub decreases-loop-rest : goal.decreases-loop-rest
decreases-loop-rest l = length l.rest
