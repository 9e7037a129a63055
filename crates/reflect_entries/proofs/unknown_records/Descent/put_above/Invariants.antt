-- What is above the number is written or left, and what is not is left.
use Rattle.std.proofs.Common.{◌≡◌, ◌+◌, ◌++◌, length, is_some, if◌then◌else◌}
use Rattle.reflect_codec.specs.Held.{held}
use Rattle.reflect_wire.specs.Encoding.{records_bytes}
use Rattle.reflect_wire.specs.Views.{records_of}
use Rattle.reflect_entries.specs.Left.{unwritten}
use Rattle.reflect_entries.specs.Sets.{above, up_to}
use Rattle.reflect_entries.proofs.unknown_records.Descent.put_above.Given as goal

abbrev pub invariant-above : goal.invariant-above
invariant-above l = record {
  written : records_bytes (records_of (above l.least (unwritten l.self))) ++ held l.out ≡ records_bytes (records_of (above l.least (unwritten l.initial.self))) ++ held l.initial.out;
  rest : up_to l.least (unwritten l.self) ≡ up_to l.least (unwritten l.initial.self);
}

abbrev pub decreases-above : goal.decreases-above
decreases-above l = length l.self.rest + (if is_some l.self.ahead then 1 else 0)
