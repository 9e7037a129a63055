use Rattle.reflect_faults.specs.Faults.{batch_places}
use Rattle.reflect_passes.specs.Linked.{linked_values}
use Rattle.linked_view.specs.Passed.{facts_of, start_of}
use Rattle.linked_view.proofs.Along.{ruled_to, ruled_from}
use Rattle.linked_view.proofs.laws.numbers_have_no_fault_where_they_meet_the_rules.Goals as goal

pub returns : goal.returns
returns c t before first new references complete typed told =
    let g = facts_of t before first new references in (
      ruled_to g (linked_values t) (batch_places new first) (start_of references) before first new
          complete typed told,
      ruled_from g (linked_values t) (batch_places new first) (start_of references) before first new
          complete typed told,
    )
