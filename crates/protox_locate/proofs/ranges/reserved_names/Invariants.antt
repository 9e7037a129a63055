use Rattle.std.proofs.Common.{◌≡◌, drop, map}
use Rattle.std.specs.List.{fold}
use Rattle.protox_locate.specs.Declarations.{after_name, each, name_events}
use Rattle.protox_locate.specs.Collected.{meets, state}
use Rattle.protox_tree.specs.View.{strings_view}
use Rattle.protox_locate.proofs.ranges.reserved_names.Given as goal

abbrev pub invariant-names : goal.invariant-names
invariant-names l = record {
  located : meets (state l.locator) (each (name_events l.path l.tag) after_name l.count (map strings_view (drop l.name-index l.names))) ≡ meets (state l.initial.locator) (each (name_events l.path l.tag) after_name l.initial.count (map strings_view l.names));
  counted : fold after_name l.count (map strings_view (drop l.name-index l.names)) ≡ fold after_name l.initial.count (map strings_view l.names);
}
