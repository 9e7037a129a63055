use Rattle.std.proofs.Common.{map, take}
use Rattle.std.specs.List.{AllByRecursion}
use Rattle.reflect_tables.specs.Types.{FileWithin}
use Rattle.reflect_tables.specs.Views.{places_of}
use Rattle.reflect_growth.proofs.within.files_within.Given as goal

abbrev pub invariant-loop-file : goal.invariant-loop-file
invariant-loop-file l = AllByRecursion (FileWithin l.counts) (map places_of (take l.file-index l.items))
