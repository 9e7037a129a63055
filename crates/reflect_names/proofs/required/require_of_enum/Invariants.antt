use Rattle.std.proofs.Common.{take}
use Rattle.reflect_declarations.specs.Declarations.{each}
use Rattle.reflect_faults.specs.Faults.{Adds, place_at}
use Rattle.reflect_names.specs.Names.{enum_range_faults}
use Rattle.reflect_names.proofs.required.require_of_enum.Given as goal

abbrev pub invariant-turns : goal.invariant-turns
invariant-turns l = Adds l.initial.faults l.faults (each (enum_range_faults (place_at l.initial.faults l.file) l.path) 0 (take l.at l.range-items))
