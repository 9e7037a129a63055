use Rattle.std.proofs.Common.{◌≡◌, ◌++◌, length}
use Rattle.std.specs.Prelude.{unsigned_abs}
use Rattle.reflect_codec.specs.Fields.{records_field}
use Rattle.reflect_codec.specs.Held.{held}
use Rattle.reflect_codec.proofs.backward.Backward.put_records.Given as goal

abbrev pub invariant-loop-last : goal.invariant-loop-last
invariant-loop-last g l = records_field g.R.WriteRecord.bytes (unsigned_abs l.number) l.left ++ held l.self ≡ records_field g.R.WriteRecord.bytes (unsigned_abs l.number) l.initial.left ++ held l.initial.self

abbrev pub decreases-loop-last : goal.decreases-loop-last
decreases-loop-last g l = length l.left
