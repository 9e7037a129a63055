use Rattle.std.proofs.Common.{◌≡◌, ◌++◌}
use Rattle.std.specs.Vec.Iter.{into_iter_items}
use Rattle.reflect_extend.specs.Puts.{PutsAll}
use Rattle.reflect_extend.proofs.extend.insert_all.Given as goal

abbrev pub invariant-loop-entry : goal.invariant-loop-entry
invariant-loop-entry l = record {
  puts : PutsAll l.initial.held.entries l.held.entries l.yielded;
  left : l.fn.entries.items ≡ l.yielded ++ into_iter_items l.entry-iterator;
}
