use Rattle.std.proofs.Common.{◌≡◌, drop}
use Rattle.std.specs.List.{fold}
use Rattle.protox_locate.specs.Declarations.{each}
use Rattle.protox_locate.specs.Collected.{meets, state}
use Rattle.protox_locate.specs.Messages.{after_range, extension_events}
use Rattle.std.specs.Prelude.{option_map}
use Rattle.protox_tree.specs.View.{option_list_view}
use Rattle.protox_locate.proofs.ranges.extensions.Given as goal

abbrev pub invariant-entries : goal.invariant-entries
invariant-entries l = record {
  located : meets (state l.locator) (each (extension_events l.path (option_map option_list_view l.statement.options)) after_range l.count (drop l.one-index l.one-items)) ≡ meets (state l.initial.locator) (each (extension_events l.path (option_map option_list_view l.statement.options)) after_range l.initial.count l.one-items);
  counted : fold after_range l.count (drop l.one-index l.one-items) ≡ fold after_range l.initial.count l.one-items;
}
