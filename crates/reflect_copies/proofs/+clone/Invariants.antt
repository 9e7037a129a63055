use Rattle.std.proofs.Common.{◌≡◌, IsTrue, take, length, map}
use Rattle.reflect_entries.specs.Entries.{IsAscending}
use Rattle.reflect_copies.specs.Copies.{AreCopies}
use Rattle.reflect_copies.specs.InOrder.{items_in_order, map_in_order}
use Rattle.reflect_copies.specs.Trees.{tree}
use Rattle.reflect_copies.proofs.Entries.{Copied}
use Rattle.reflect_copies.proofs.InOrder.{AllInOrder}
use Rattle.reflect_copies.proofs.+clone.Given as goal

-- the entries so far are copied, by ascending numbers, and the copies are in order
abbrev pub invariant-message::entries_clone-entries : goal.invariant-message::entries_clone-entries
invariant-message::entries_clone-entries l = record {
  copies : AreCopies (take (length l.yielded) l.entries) l.copy;
  ascending : IsAscending l.copy;
  in_order : AllInOrder l.copy;
}

abbrev pub invariant-value::list_clone-values : goal.invariant-value::list_clone-values
invariant-value::list_clone-values l = record {
  content : map tree l.copy.items ≡ map tree (take l.value-index l.value-items);
  in_order : IsTrue (items_in_order l.copy.items);
}

-- of a map's entries some are copied, and the iterator has the others
abbrev pub invariant-value::map_clone-loop-key : goal.invariant-value::map_clone-loop-key
invariant-value::map_clone-loop-key l = record {
  copied : Copied l.entries.entries l.key-iterator l.copy.entries;
  in_order : IsTrue (map_in_order l.copy.entries);
}
