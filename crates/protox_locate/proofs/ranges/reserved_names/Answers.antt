use Rattle.std.proofs.Common.{◌∙◌, map, refl, to_z, of_z, w32}
use Rattle.std.specs.List.{fold}
use Rattle.protox_locate.specs.Collected.{state}
use Rattle.protox_locate.specs.Declarations.{after_name, each, name_events}
use Rattle.protox_tree.specs.View.{strings_view}
use Rattle.protox_locate.proofs.Meets.{next_counted, next_met}
use Rattle.protox_locate.proofs.ranges.reserved_names.Goals as goal

pub names-preserved : goal.names-preserved
names-preserved c =
    let path = c.args.path.now in
    let tag = to_z w32 (of_z w32 c.args.tag) in
    let names = c.args.names.now in
    let count = c.names.count in
    let step = c.in_ok-reserved_name.ensures in
    record {
      located = next_met (λ n x. name_events path tag n (strings_view x)) (λ n x. after_name n (strings_view x)) (λ n xs. each (name_events path tag) after_name n (map strings_view xs)) (λ n x xs. refl)
          names c.names.name-index c.name-item.result (state c.names.locator) (state c.reserved_name.new.locator) count c.reserved_name.new.count c.names-test.true c.name-item.is step.located step.counted
          ∙ c.names.invariant.located;
      counted = next_counted (λ n x. after_name n (strings_view x)) (λ n xs. fold after_name n (map strings_view xs)) (λ n x xs. refl)
          names c.names.name-index c.name-item.result count c.reserved_name.new.count c.names-test.true c.name-item.is step.counted
          ∙ c.names.invariant.counted;
    }
