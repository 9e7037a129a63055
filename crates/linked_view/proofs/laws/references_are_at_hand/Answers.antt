use Rattle.std.proofs.Common.{sym}
use Rattle.reflect_names.specs.ReferencePass.{views_of}
use Rattle.reflect_passes.specs.Linked.{linked_values}
use Rattle.reflect_declarations.specs.Batches.{batch_declarations}
use Rattle.linked_view.specs.Passed.{facts_of, start_of}
use Rattle.linked_view.proofs.AtHand.{met_to_by, met_by_to}
use Rattle.linked_view.proofs.laws.references_are_at_hand.Goals as goal

pub returns : goal.returns
returns c t known links at before first new references found =
    let g = facts_of t before first new references in
    let ds = batch_declarations before first new in (
      met_to_by g (linked_values t) (views_of known found.sees) at (start_of references) ds
          (sym found.faults) found.targets,
      met_by_to g (linked_values t) (views_of known found.sees) at (start_of references) ds
          (sym found.faults) found.targets,
    )
