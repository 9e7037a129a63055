-- The ranges so far are those of the records so far.
use Rattle.std.proofs.Common.{◌≡◌, map, take}
use Rattle.reflect_tables.specs.Ranges.{extension_range}
use Rattle.reflect_tables.proofs.Furthest.{pair_of}
use Rattle.reflect_tables.proofs.ranges.NumberRanges.extensions.Given as goal

abbrev pub invariant-turns : goal.invariant-turns
invariant-turns l = map pair_of l.ranges.items ≡ map extension_range (take l.record-index l.records)
