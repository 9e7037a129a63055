use Rattle.std.proofs.Common.{map, take}
use Rattle.std.specs.List.{AllByRecursion}
use Rattle.reflect_tables.specs.Types.{HoldsWithin}
use Rattle.reflect_tables.specs.Views.{message_of}
use Rattle.reflect_growth.proofs.within.hold_within.Given as goal

abbrev pub invariant-loop-message : goal.invariant-loop-message
invariant-loop-message l = AllByRecursion (HoldsWithin l.counts) (map message_of (take l.message-index l.items))
