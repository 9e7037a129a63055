use Rattle.std.proofs.Common.{◌≡◌, drop}
use Rattle.std.specs.List.{fold}
use Rattle.protox_locate.specs.Declarations.{after_entry, each, entry_events}
use Rattle.protox_locate.specs.Collected.{meets, state}
use Rattle.protox_locate.proofs.ranges.reserved_ranges.Given as goal

abbrev pub invariant-entries : goal.invariant-entries
invariant-entries l = record {
  located : meets (state l.locator) (each (entry_events l.path l.tag) after_entry l.count (drop l.one-index l.ranges)) ≡ meets (state l.initial.locator) (each (entry_events l.path l.tag) after_entry l.initial.count l.ranges);
  counted : fold after_entry l.count (drop l.one-index l.ranges) ≡ fold after_entry l.initial.count l.ranges;
}
