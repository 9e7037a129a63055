-- Of all sets some are copied, and the iterator has the others.
use Rattle.reflect_entries.proofs.Copies.{Copies}
use Rattle.reflect_entries.proofs.unknown_records.UnknownRecords.clone.Given as goal

abbrev pub invariant-loop-number : goal.invariant-loop-number
invariant-loop-number l = Copies l.initial.self.sets.entries l.number-iterator l.sets.entries
