use Rattle.std.proofs.Common.{map, take}
use Rattle.std.specs.List.{AllByRecursion}
use Rattle.reflect_tables.specs.Types.{IsWithin}
use Rattle.reflect_tables.specs.Views.{field_of}
use Rattle.reflect_growth.proofs.within.fields_within.Given as goal

abbrev pub invariant-loop-field : goal.invariant-loop-field
invariant-loop-field l = AllByRecursion (λ f. IsWithin l.counts f.kind) (map field_of (take l.field-index l.fields))
