use Rattle.std.proofs.Common.{◌∙◌, List, ap, false, refl, sym}
use Rattle.std.specs.List.{fold}
use Rattle.std.specs.Prelude.{option_map}
use Rattle.protox_locate.specs.Collected.{meets, state}
use Rattle.protox_locate.specs.Declarations.{each}
use Rattle.protox_locate.specs.Located.{Event}
use Rattle.protox_locate.specs.Messages.{after_range, extension_events}
use Rattle.protox_locate.specs.declared.slot.Count.{Count}
use Rattle.protox_tree.specs.View.{option_list_view}
use Rattle.protox_tree.specs.declared.range.RangeEnd.TheVariants as ends
use Rattle.protox_tree.specs.declared.range.ReservedRange.{ReservedRange}
use Rattle.protox_locate.proofs.Meets.{all_counted, all_met, next_counted_at, next_met_at}
use Rattle.protox_locate.proofs.ranges.extensions.Goals as goal

-- what is read past the end
abbrev zero : ReservedRange
zero = record { start = record { negative = false; value = 0; span = record { start = 0; end = 0 } }; end = ends.None }

pub entries-preserved : goal.entries-preserved
entries-preserved c =
    let path = c.args.path.now in
    let options = option_map option_list_view c.args.statement.now.options in
    let entries = c.deref-one-items.result.now in
    let step = c.in_ok-extension_range.ensures in
    record {
      located = next_met_at (extension_events path options) after_range (each (extension_events path options) after_range) (λ n x xs. refl)
          zero entries c.entries.one-index (state c.entries.locator) (state c.extension_range.new.locator) c.entries.count c.extension_range.new.count c.entries-test.true step.located step.counted
          ∙ c.entries.invariant.located;
      counted = next_counted_at after_range (fold after_range) (λ n x xs. refl) zero entries c.entries.one-index c.entries.count c.extension_range.new.count c.entries-test.true step.counted ∙ c.entries.invariant.counted;
    }

pub returns : goal.returns
returns c =
    let path = c.args.path.now in
    let made = c.args.statement.now in
    let options = option_map option_list_view made.options in
    let entries = c.deref-one-items.result.now in
    let all : Count → List ReservedRange → List Event = each (extension_events path options) after_range in
    record {
      located = sym (all_met all (λ n. refl) entries c.entries.one-index (state c.entries.locator) c.entries.count c.entries-test.false)
          ∙ c.entries.invariant.located
          ∙ ap (λ xs. meets (state c.statement.new.self) (all c.args.count.now xs)) c.deref-one-items.ensures.value
          ∙ ap (λ s. meets s (all c.args.count.now made.ranges.items)) c.in_ok-statement.ensures;
      counted = sym (all_counted (fold after_range) entries c.entries.one-index c.entries.count c.entries-test.false)
          ∙ c.entries.invariant.counted ∙ ap (fold after_range c.args.count.now) c.deref-one-items.ensures.value;
    }
