use Rattle.std.proofs.Common.{◌≡◌, ◌≤◌, ◌+◌, ◌*◌, ◌++◌, length}
use Rattle.std.specs.Prelude.{unsigned_abs}
use Rattle.reflect_codec.specs.Fields.{records_field}
use Rattle.reflect_codec.specs.Held.{held}
use Rattle.reflect_codec.specs.Written.{message_bytes}
use Rattle.reflect_codec.proofs.Messages.{weight, weights}
use Rattle.reflect_codec.proofs.message.+write.Given as goal

abbrev pub decreases-put_message_type : goal.decreases-put_message_type
decreases-put_message_type l = 2 * weight l.message.now

abbrev pub decreases-put_message_types : goal.decreases-put_message_types
decreases-put_message_types l = 2 * weights l.list.now + 1

abbrev pub invariant-put_message_types-loop-last : goal.invariant-put_message_types-loop-last
invariant-put_message_types-loop-last l = record {
  written : records_field message_bytes (unsigned_abs l.number) l.left ++ held l.out ≡ records_field message_bytes (unsigned_abs l.number) l.initial.left ++ held l.initial.out;
  lighter : weights l.left ≤ weights l.initial.left;
}

abbrev pub decreases-put_message_types-loop-last : goal.decreases-put_message_types-loop-last
decreases-put_message_types-loop-last l = length l.left
