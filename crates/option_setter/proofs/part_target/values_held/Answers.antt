use Rattle.std.proofs.Common.{◌≡◌, ap, ◌∙◌}
use Rattle.reflect_message.specs.Lists.{items_held, list_items}
use Rattle.reflect_message.specs.Shown.{shown}
use Rattle.reflect_format.specs.Steps.{held_by}
use Rattle.option_setter.proofs.Held.{counted, lent_items}
use Rattle.option_setter.proofs.part_target.values_held.Goals as goal
use Rattle.option_setter.proofs.part_target.values_held.Goals.{in-Field+in_ok-held-in-Field, in-Extension+in_ok-held-in-Extension}

-- src/part_target.rt:72:1
pub returns-in-Some : goal.returns-in-Some
returns-in-Some c = λ l.
    let items : list_items (shown c.match-target.held) ≡ items_held (held_by c.args.message.now c.args.target) = elim c.match-target.branch [
      | in-Field+in_ok-held-in-Field w ↦ lent_items c.args.message.now c.args.target _ w.in-Field.is c.match-target.held _ w.held-is w.in_ok-held-in-Field.ensures.shows l
      | in-Extension+in_ok-held-in-Extension w ↦ lent_items c.args.message.now c.args.target _ w.in-Extension.is c.match-target.held _ w.held-is w.in_ok-held-in-Extension.ensures.shows l
    ] in
    counted c.in-Some.values.now (held_by c.args.message.now c.args.target) (c.in-Some.ensures ∙ ap list_items c.value.ensures ∙ items)
