use Rattle.reflect_index.specs.Finished.{FinishedEnums}
use Rattle.reflect_index.proofs.finish.finished_enums.Given as goal

abbrev pub invariant-loop-draft : goal.invariant-loop-draft
invariant-loop-draft l = FinishedEnums l.yielded l.enums.items
