use Rattle.std.proofs.Common.{◌≤◌, length, drop}
use Rattle.std.specs.List.{AllPass}
use Rattle.schema_core.specs.Serving.{is_margin}
use Rattle.schema_core.proofs.payload.trim_end.Given as goal

abbrev pub invariant-back : goal.invariant-back
invariant-back l = (l.end ≤ length l.text) × AllPass is_margin (drop l.end l.text)

abbrev pub decreases-back : goal.decreases-back
decreases-back l = l.end
