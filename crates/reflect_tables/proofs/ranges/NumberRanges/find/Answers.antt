-- The range that ends last of those that begin up to the number has it, if any does.
use Rattle.std.proofs.Common.{rules, of_calls, ◌≡◌, ◌-◌, ◌<◌, ◌≤◌, ◌≤ℤ◌, length, slice_index_or, arith, sym, ap, to_z, of_z, w32, int_le}
use Rattle.std.proofs.lemmas.Int.{ints}
use Rattle.std.proofs.lemmas.List.Sorted.{IsPartitionPoint-from_clause}
use Rattle.std.specs.List.Sorted.{IsPartitionedBy}
use Rattle.reflect_tables.specs.Furthest.{EndsLast, no_range}
use Rattle.reflect_tables.proofs.Furthest.{none_of, none_here, among, any_default, up_to_rises, begins_behind, begins_before, pair_of}
use Rattle.reflect_tables.proofs.ranges.NumberRanges.find.Goals as goal

pub returns-then-behind-eq0 : goal.returns-then-behind-eq0
returns-then-behind-eq0 c =
    let rs = c.args.self.now.ranges.items in
    let n = c.args.number in
    let behind = c.partition_point-behind.result in
    let parted : IsPartitionedBy (λ r. int_le r.start n) rs = λ i j d le lt e. up_to_rises rs n c.args.self.now.rise i j d le lt e in
    let parts = rw c.as_slice.ensures.value at (IsPartitionPoint-from_clause (λ r. int_le r.start n) _ _ c.partition_point-behind.ensures.partitioned (rw c.as_slice.ensures.value parted) (λ a r q k. search (rules, of_calls))) in
    none_of rs n no_range (λ k lt is. let starts = begins_behind rs n behind parts k no_range (omega (arith, c.if-behind-eq0.true)) lt in let begins = is.0 in omega (arith, ints, starts, begins))

pub returns-then-number-range : goal.returns-then-number-range
returns-then-number-range c =
    let rs = c.args.self.now.ranges.items in
    let n = c.args.number in
    let behind = c.partition_point-behind.result in
    let parted : IsPartitionedBy (λ r. int_le r.start n) rs = λ i j d le lt e. up_to_rises rs n c.args.self.now.rise i j d le lt e in
    let parts = rw c.as_slice.ensures.value at (IsPartitionPoint-from_clause (λ r. int_le r.start n) _ _ c.partition_point-behind.ensures.partitioned (rw c.as_slice.ensures.value parted) (λ a r q k. search (rules, of_calls))) in
    let few : behind ≤ length rs = rw c.as_slice.ensures.value at c.partition_point-behind.ensures.bound in
    let some : 0 < behind = omega (arith, c.if-behind-eq0.false) in
    let place = c.index.result.now in
    let last : EndsLast rs (behind - 1) place = rw (← c.index.ensures) at (c.args.self.now.last (behind - 1) place (omega (arith, some, few))) in
    let end : to_z w32 (of_z w32 c.index-range.result.now.end) ≡ c.index-range.result.now.end = search rules in
    let number : to_z w32 (of_z w32 n) ≡ n = search rules in
    let start : to_z w32 (of_z w32 c.index-range.result.now.start) ≡ c.index-range.result.now.start = search rules in
    let begins = rw (← c.index-range.ensures) at (begins_before rs n behind parts place c.index-range.result.now (omega (arith, last.0, some))) in
    let ends = rw (end, number) at c.if-number-range.true in
    rw (start, end) (among rs place c.index-range.result.now (pair_of c.index-range.result.now) (omega (arith, last.0, some, few)) (ap pair_of (sym c.index-range.ensures)), (begins, omega (arith, ints, ends)))

pub returns-else-number-range : goal.returns-else-number-range
returns-else-number-range c =
    let rs = c.args.self.now.ranges.items in
    let n = c.args.number in
    let behind = c.partition_point-behind.result in
    let parted : IsPartitionedBy (λ r. int_le r.start n) rs = λ i j d le lt e. up_to_rises rs n c.args.self.now.rise i j d le lt e in
    let parts = rw c.as_slice.ensures.value at (IsPartitionPoint-from_clause (λ r. int_le r.start n) _ _ c.partition_point-behind.ensures.partitioned (rw c.as_slice.ensures.value parted) (λ a r q k. search (rules, of_calls))) in
    let few : behind ≤ length rs = rw c.as_slice.ensures.value at c.partition_point-behind.ensures.bound in
    let some : 0 < behind = omega (arith, c.if-behind-eq0.false) in
    let place = c.index.result.now in
    let last : EndsLast rs (behind - 1) place = rw (← c.index.ensures) at (c.args.self.now.last (behind - 1) place (omega (arith, some, few))) in
    let end : to_z w32 (of_z w32 c.index-range.result.now.end) ≡ c.index-range.result.now.end = search rules in
    let number : to_z w32 (of_z w32 n) ≡ n = search rules in
    let not_ends = rw (end, number) at c.if-number-range.false in
    let ended : (slice_index_or rs place c.index-range.result.now).end ≤ℤ n = rw (← c.index-range.ensures) (omega (arith, ints, not_ends)) in
    none_of rs n no_range (none_here rs n behind place last some (begins_behind rs n behind parts) (rw (any_default rs place no_range c.index-range.result.now (omega (arith, last.0, some, few))) ended))
