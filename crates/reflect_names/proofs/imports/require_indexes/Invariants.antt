use Rattle.std.proofs.Common.{take}
use Rattle.reflect_declarations.specs.Declarations.{each}
use Rattle.reflect_faults.specs.Faults.{Adds, place_at}
use Rattle.reflect_names.specs.Names.{public_fault}
use Rattle.reflect_names.proofs.imports.require_indexes.Given as goal

abbrev pub invariant-turns : goal.invariant-turns
invariant-turns l = Adds l.initial.faults l.faults (each (public_fault (place_at l.initial.faults l.index) l.count) 0 (take l.at l.import-items))
