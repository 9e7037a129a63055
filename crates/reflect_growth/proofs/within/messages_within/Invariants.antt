use Rattle.std.proofs.Common.{map, take}
use Rattle.std.specs.List.{AllByRecursion}
use Rattle.reflect_tables.specs.Types.{MessageWithin}
use Rattle.reflect_tables.specs.Views.{message_of}
use Rattle.reflect_growth.proofs.within.messages_within.Given as goal

abbrev pub invariant-loop-message : goal.invariant-loop-message
invariant-loop-message l = AllByRecursion (MessageWithin l.counts) (map message_of (take l.message-index l.items))
