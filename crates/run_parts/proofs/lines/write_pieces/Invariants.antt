use Rattle.std.proofs.Common.{◌≡◌, ℕ, List, ◌++◌}
use Rattle.std.specs.Io.KnownBytes.{Appends}
use Rattle.run_parts.proofs.lines.write_pieces.Given as goal

-- what is gone from the rest stands behind what the stream had
abbrev pub invariant-writes : goal.invariant-writes
invariant-writes g l = (done : List ℕ) × (l.initial.rest ≡ done ++ l.rest) × Appends (g.W.Write.contents l.initial.stream) (g.W.Write.contents l.stream) done

abbrev pub decreases-writes : goal.decreases-writes
decreases-writes g l = l.tries
