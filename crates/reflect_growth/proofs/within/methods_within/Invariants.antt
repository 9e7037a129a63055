use Rattle.std.proofs.Common.{map, take}
use Rattle.std.specs.List.{AllByRecursion}
use Rattle.reflect_tables.specs.Types.{MethodWithin}
use Rattle.reflect_tables.specs.Views.{method_of}
use Rattle.reflect_growth.proofs.within.methods_within.Given as goal

abbrev pub invariant-loop-method : goal.invariant-loop-method
invariant-loop-method l = AllByRecursion (MethodWithin l.counts) (map method_of (take l.method-index l.items))
