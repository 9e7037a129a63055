use Rattle.std.proofs.Common.{◌≡◌, ◌++◌, length}
use Rattle.reflect_wire.specs.Reads.{Fronts}
use Rattle.reflect_wire.specs.Records.{Records, SpellsRecords}
use Rattle.reflect_codec.specs.Raw.{fields_view}
use Rattle.reflect_codec.specs.Reading.{fields_in}
use Rattle.reflect_codec.proofs.fields.with_fields.Given as goal

abbrev pub invariant-loop-rest : goal.invariant-loop-rest
invariant-loop-rest l = (done : Records) × Fronts (SpellsRecords l.levels) l.bytes done l.rest × (fields_view l.list.items ≡ fields_view l.initial.list.items ++ fields_in done)

abbrev pub decreases-loop-rest : goal.decreases-loop-rest
decreases-loop-rest l = length l.rest
