use Rattle.std.proofs.Common.{◌∙◌, false, refl, to_z, of_z, w32}
use Rattle.std.specs.List.{fold}
use Rattle.protox_locate.specs.Collected.{state}
use Rattle.protox_locate.specs.Declarations.{after_entry, each, entry_events}
use Rattle.protox_tree.specs.declared.range.RangeEnd.TheVariants as ends
use Rattle.protox_tree.specs.declared.range.ReservedRange.{ReservedRange}
use Rattle.protox_locate.proofs.Meets.{next_counted_at, next_met_at}
use Rattle.protox_locate.proofs.ranges.reserved_ranges.Goals as goal

-- what is read past the end
abbrev zero : ReservedRange
zero = record { start = record { negative = false; value = 0; span = record { start = 0; end = 0 } }; end = ends.None }

pub entries-preserved : goal.entries-preserved
entries-preserved c =
    let path = c.args.path.now in
    let tag = to_z w32 (of_z w32 c.args.tag) in
    let entries = c.args.ranges.now in
    let step = c.in_ok-reserved_range.ensures in
    record {
      located = next_met_at (entry_events path tag) after_entry (each (entry_events path tag) after_entry) (λ n x xs. refl)
          zero entries c.entries.one-index (state c.entries.locator) (state c.reserved_range.new.locator) c.entries.count c.reserved_range.new.count c.entries-test.true step.located step.counted
          ∙ c.entries.invariant.located;
      counted = next_counted_at after_entry (fold after_entry) (λ n x xs. refl) zero entries c.entries.one-index c.entries.count c.reserved_range.new.count c.entries-test.true step.counted ∙ c.entries.invariant.counted;
    }
