use Rattle.std.proofs.Common.{◌≡◌, drop, map}
use Rattle.protox_locate.specs.Declarations.{after_field_option, each, field_option_events, none}
use Rattle.protox_locate.specs.Collected.{meets, state}
use Rattle.protox_tree.specs.View.{body_view}
use Rattle.protox_locate.proofs.options.field_options.Given as goal

abbrev pub invariant-bodies : goal.invariant-bodies
invariant-bodies l = meets (state l.locator) (each (field_option_events l.path) after_field_option l.count (map body_view (drop l.option-index l.option-items))) ≡ meets (state l.initial.locator) (each (field_option_events l.path) after_field_option none (map body_view l.option-items))
