use Rattle.std.proofs.Common.{◌≡◌, drop, map}
use Rattle.protox_locate.specs.Declarations.{after_body, body_events, each, none}
use Rattle.protox_locate.specs.Collected.{meets, state}
use Rattle.protox_tree.specs.View.{body_view}
use Rattle.protox_locate.proofs.options.option_list.Given as goal

abbrev pub invariant-bodies : goal.invariant-bodies
invariant-bodies l = meets (state l.locator) (each (body_events l.path l.options) after_body l.count (map body_view (drop l.option-index l.option-items))) ≡ meets (state l.initial.locator) (each (body_events l.path l.options) after_body none (map body_view l.option-items))
