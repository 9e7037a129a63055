use Rattle.std.proofs.Common.{map, take}
use Rattle.std.specs.List.{AllByRecursion}
use Rattle.reflect_tables.specs.Types.{ExtensionWithin}
use Rattle.reflect_tables.specs.Views.{extension_of}
use Rattle.reflect_growth.proofs.within.extensions_within.Given as goal

abbrev pub invariant-loop-extension : goal.invariant-loop-extension
invariant-loop-extension l = AllByRecursion (ExtensionWithin l.counts) (map extension_of (take l.extension-index l.items))
