use Rattle.std.proofs.Common.{take}
use Rattle.std.specs.BTreeMap.{get_by_text}
use Rattle.reflect_declarations.specs.Declarations.{each}
use Rattle.reflect_faults.specs.Faults.{Adds, place_at}
use Rattle.reflect_names.specs.Names.{import_fault}
use Rattle.reflect_names.proofs.imports.require_imports.Given as goal

abbrev pub invariant-turns : goal.invariant-turns
invariant-turns l = Adds l.initial.faults l.faults (each (import_fault (place_at l.initial.faults l.index) (λ n. get_by_text l.file_names n)) 0 (take l.at l.name-items))
