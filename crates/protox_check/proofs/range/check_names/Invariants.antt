use Rattle.std.proofs.Common.{◌≡◌, ◌++◌, take}
use Rattle.std.specs.List.{flat_map}
use Rattle.protox_check.specs.Texts.{text_faults}
use Rattle.protox_tree.specs.View.{names_view}
use Rattle.protox_check.proofs.range.check_names.Given as goal

abbrev pub invariant-each : goal.invariant-each
invariant-each l = l.faults.items ≡ l.initial.faults.items ++ flat_map text_faults (names_view (take l.name-index l.name-items))
