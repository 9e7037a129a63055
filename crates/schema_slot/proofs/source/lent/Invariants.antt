use Rattle.std.proofs.Common.{◌≡◌, map, take}
use Rattle.schema_core.specs.Refusals.{sources_of}
use Rattle.schema_slot.specs.Held.{pair_of}
use Rattle.schema_slot.proofs.source.lent.Given as goal

-- the sources so far are lent
abbrev pub invariant-each : goal.invariant-each
invariant-each l = sources_of l.pairs.items ≡ map pair_of (take l.source-index l.source-items)
