use Rattle.std.proofs.Common.{◌≡◌, ◌++◌, take}
use Rattle.std.specs.List.{flat_map}
use Rattle.protox_check.specs.Ranges.{range_faults}
use Rattle.protox_check.proofs.range.check_ranges.Given as goal

abbrev pub invariant-each : goal.invariant-each
invariant-each l = l.faults.items ≡ l.initial.faults.items ++ flat_map (range_faults l.numbers) (take l.range-index l.range-items)
