use Rattle.std.proofs.Common.{◌≡◌, length}
use Rattle.reflect_entries.specs.Left.{unread}
use Rattle.reflect_entries.proofs.unknown_records.UnknownFieldsIterator.next.Given as goal

abbrev pub invariant-sets : goal.invariant-sets
invariant-sets l = unread l.self ≡ unread l.initial.self

abbrev pub decreases-sets : goal.decreases-sets
decreases-sets l = length l.self.sets
