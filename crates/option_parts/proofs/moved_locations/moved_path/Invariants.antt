use Rattle.std.proofs.Common.{suc}
use Rattle.option_parts.specs.Moves.{targets_of}
use Rattle.option_parts.proofs.Moves.{StaysBelow}
use Rattle.option_parts.proofs.moved_locations.moved_path.Given as goal

abbrev pub invariant-numbers : goal.invariant-numbers
invariant-numbers l = StaysBelow (targets_of l.moved) l.path (suc (suc l.at))
