-- No numbers ascend.
use Rattle.std.proofs.Common.{[], ap, ◌∙◌, sym, length, arith}
use Rattle.reflect_entries.proofs.Zips.{sorted_from}
use Rattle.reflect_entries.proofs.entries.Entries.new.Goals as goal

pub invariant_of-result : goal.invariant_of-result
invariant_of-result g c = (ap length c.new-2.ensures.items ∙ sym (ap length c.new.ensures.items), rw c.new.ensures.items (sorted_from [] (λ i j d lt short. absurd (omega (arith, short)))))
