use Rattle.std.proofs.Common.{◌≤◌, ◌-◌, length, take}
use Rattle.std.specs.List.{AllPass}
use Rattle.schema_core.specs.Serving.{is_margin}
use Rattle.schema_core.proofs.payload.trim_start.Given as goal

abbrev pub invariant-front : goal.invariant-front
invariant-front l = (l.start ≤ length l.text) × AllPass is_margin (take l.start l.text)

abbrev pub decreases-front : goal.decreases-front
decreases-front l = length l.text - l.start
