-- Sorted ranges ascend by their start.
use Rattle.std.proofs.lemmas.Fn.{always_returns_same}
use Rattle.std.proofs.Common.{rules, of_calls}
use Rattle.reflect_tables.proofs.Furthest.{from_sort}
use Rattle.reflect_tables.proofs.ranges.NumberRanges.sorted.Goals as goal

pub invariant_of-result : goal.invariant_of-result
invariant_of-result c = record {
  rise = from_sort c.sort_unstable_by_key.new.self.items (c.sort_unstable_by_key.ensures.sorted (λ r. r.start) (always_returns_same _ _ _ (λ a r f k. search (rules, of_calls))));
  each = rw c.as_slice.ensures.value at c.in_ok-furthest.ensures.each;
  last = rw c.as_slice.ensures.value at c.in_ok-furthest.ensures.last;
}
