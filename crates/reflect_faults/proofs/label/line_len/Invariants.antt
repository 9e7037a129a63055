use Rattle.std.proofs.Common.{◌≡◌, ◌<◌, ℕ, false, get_or}
use Rattle.std.specs.Prelude.{◌==◌}
use Rattle.reflect_faults.proofs.label.line_len.Given as goal

abbrev pub invariant-bytes : goal.invariant-bytes
invariant-bytes l = (k : ℕ) → k < l.index → (get_or l.rest k 0 == 10) ≡ false
