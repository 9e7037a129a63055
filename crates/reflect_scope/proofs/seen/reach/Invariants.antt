use Rattle.std.proofs.Common.{◌≡◌, ◌≤◌, ◌-◌, length, take}
use Rattle.reflect_scope.specs.Sees.{publics_at, imports_at}
use Rattle.reflect_scope.specs.Marks.{IsMarked, AreListed}
use Rattle.reflect_scope.proofs.Search.{Searching}
use Rattle.reflect_scope.proofs.seen.reach.Given as goal

abbrev pub invariant-reach : goal.invariant-reach
invariant-reach l = record {
  marked : IsMarked l.marks.items l.order.items;
  listed : AreListed l.marks.items l.order.items;
  room : length l.files ≡ length l.marks.items;
  within : l.next ≤ length l.order.items;
  searching : Searching (length l.marks.items) (publics_at l.files) (imports_at l.files l.file) l.order.items (take l.next l.order.items);
}

abbrev pub decreases-reach : goal.decreases-reach
decreases-reach l = length l.marks.items - l.next
