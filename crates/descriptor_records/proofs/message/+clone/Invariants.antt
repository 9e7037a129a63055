use Rattle.std.proofs.Common.{◌≡◌, map, take}
use Rattle.descriptor_records.specs.Content.{message_view}
use Rattle.descriptor_records.proofs.message.+clone.Given as goal

abbrev pub invariant-clone_messages-loop-message : goal.invariant-clone_messages-loop-message
invariant-clone_messages-loop-message l = map message_view l.copies.items ≡ map message_view (take l.message-index l.message-items)
