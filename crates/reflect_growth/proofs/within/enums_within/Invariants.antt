use Rattle.std.proofs.Common.{map, take}
use Rattle.std.specs.List.{AllByRecursion}
use Rattle.reflect_tables.specs.Types.{EnumWithin}
use Rattle.reflect_tables.specs.Views.{enum_of}
use Rattle.reflect_growth.proofs.within.enums_within.Given as goal

abbrev pub invariant-loop-enumeration : goal.invariant-loop-enumeration
invariant-loop-enumeration l = AllByRecursion (EnumWithin l.counts) (map enum_of (take l.enumeration-index l.items))
