use Rattle.std.proofs.Common.{◌≤◌, map, take}
use Rattle.std.specs.List.{AllByRecursion}
use Rattle.reflect_tables.specs.Views.{extension_of}
use Rattle.reflect_growth.proofs.from.extensions_from.Given as goal

abbrev pub invariant-loop-extension : goal.invariant-loop-extension
invariant-loop-extension l = AllByRecursion (λ x. l.first ≤ x.file) (map extension_of (take l.extension-index l.items))
