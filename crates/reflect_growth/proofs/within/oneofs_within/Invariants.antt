use Rattle.std.proofs.Common.{map, take}
use Rattle.std.specs.List.{AllByRecursion}
use Rattle.reflect_tables.specs.Types.{IsAmong}
use Rattle.reflect_tables.specs.Views.{field_of}
use Rattle.reflect_growth.proofs.within.oneofs_within.Given as goal

abbrev pub invariant-loop-field : goal.invariant-loop-field
invariant-loop-field l = AllByRecursion (λ f. IsAmong l.count f.oneof) (map field_of (take l.field-index l.fields))
