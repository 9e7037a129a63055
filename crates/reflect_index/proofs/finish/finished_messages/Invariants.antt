use Rattle.reflect_index.specs.Finished.{FinishedMessages}
use Rattle.reflect_index.proofs.finish.finished_messages.Given as goal

abbrev pub invariant-loop-draft : goal.invariant-loop-draft
invariant-loop-draft l = FinishedMessages l.yielded l.messages.items
