use Rattle.std.proofs.Common.{[], length, ap, ◌∙◌, sym, arith}
use Rattle.reflect_entries.proofs.Zips.{sorted_from}
use Rattle.reflect_entries.proofs.entries.Entries.clear.Goals as goal

pub invariant_of-self : goal.invariant_of-self
invariant_of-self g c = (ap length c.clear-2.ensures.items ∙ sym (ap length c.clear.ensures.items), rw c.clear.ensures.items (sorted_from [] (λ i j d lt short. absurd (omega (arith, short)))))
