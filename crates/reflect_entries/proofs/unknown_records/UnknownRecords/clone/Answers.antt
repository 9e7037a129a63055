-- A set that is copied goes behind the copies of those before it.
use Rattle.reflect_entries.proofs.Copies.{copied_one}
use Rattle.reflect_entries.proofs.unknown_records.UnknownRecords.clone.Goals as goal

pub loop-number-preserved-in_ok-insert : goal.loop-number-preserved-in_ok-insert
loop-number-preserved-in_ok-insert c =
    rw c.in_ok-insert.ensures.entries
    (copied_one c.args.self.now.sets.entries c.next.new.self c.loop-number.sets.entries c.in-Some.number.now c.in-Some.set.now c.in_ok-clone.field-0 c.iter-number-items.ensures.ordered c.in_ok-clone.ensures
    (rw c.in-Some.ensures.steps at c.loop-number.invariant))

pub loop-number-preserved : goal.loop-number-preserved
loop-number-preserved c =
    rw c.in_ok-insert.ensures.entries
    (copied_one c.args.self.now.sets.entries c.next.new.self c.loop-number.sets.entries c.in-Some.number.now c.in-Some.set.now c.in_ok-clone.field-0 c.iter-number-items.ensures.ordered c.in_ok-clone.ensures
    (rw c.in-Some.ensures.steps at c.loop-number.invariant))
