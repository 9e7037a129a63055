use Rattle.std.proofs.Common.{◌≡◌, ◌<◌, ◌+◌, ◌^◌, drop, sum_by}
use Rattle.reflect_build.specs.Many.{in_message, as_u64}
use Rattle.reflect_build.proofs.many.+messages.Given as goal

abbrev pub invariant-count_messages-messages : goal.invariant-count_messages-messages
invariant-count_messages-messages l = record {
  counted : as_u64 (l.count + sum_by in_message (drop l.message-index l.messages)) ≡ as_u64 (sum_by in_message l.messages);
  small : l.count < 2 ^ 64;
}
