use Rattle.std.proofs.Common.{take}
use Rattle.reflect_faults.specs.Faults.{Adds, place_at}
use Rattle.reflect_rules.specs.Numbered.{fault_of, list_tag, number_tag}
use Rattle.reflect_rules.specs.Repeats.{listed}
use Rattle.reflect_rules.proofs.repeats.list_repeats.Given as goal

abbrev pub invariant-turns : goal.invariant-turns
invariant-turns l = Adds l.initial.faults l.faults (listed (fault_of l.what) (list_tag l.what) (number_tag l.what) l.path (place_at l.initial.faults l.file) (take l.repeat-index l.repeat-items))
