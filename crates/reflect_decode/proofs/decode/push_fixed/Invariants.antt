use Rattle.std.proofs.Common.{List, length}
use Rattle.reflect_wire.specs.Reads.{Fronts}
use Rattle.reflect_scalar.specs.Singles.{Single}
use Rattle.reflect_decode.specs.Packed.{IsPacked, Continues}
use Rattle.reflect_decode.proofs.decode.push_fixed.Given as goal

-- the values so far are those that were there and what the bytes before the rest spell
abbrev pub invariant-values : goal.invariant-values
invariant-values l = (vs : List Single) × Fronts (IsPacked l.kind) l.body vs l.rest × Continues l.initial.values.items l.values.items vs

abbrev pub decreases-values : goal.decreases-values
decreases-values l = length l.rest
