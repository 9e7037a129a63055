-- The places so far, and the one that ends last of all so far.
use Rattle.std.proofs.Common.{◌≡◌, ℕ, ◌<◌, ◌≤◌, ◌≤ℤ◌, length, slice_index_or}
use Rattle.reflect_tables.specs.Furthest.{EndsLast, no_range}
use Rattle.reflect_tables.proofs.ranges.furthest_places.Given as goal

abbrev pub invariant-loop-at : goal.invariant-loop-at
invariant-loop-at l = record {
  each : length l.places.items ≡ l.at;
  within : l.at ≤ length l.initial.ranges;
  so_far : (i d : ℕ) → i < l.at → EndsLast l.initial.ranges i (slice_index_or l.places.items i d);
  here : l.last ≤ l.at;
  inside : 0 < length l.initial.ranges → l.last < length l.initial.ranges;
  furthest : (j : ℕ) → j < l.at → (slice_index_or l.initial.ranges j no_range).end ≤ℤ (slice_index_or l.initial.ranges l.last no_range).end;
}
