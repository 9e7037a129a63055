use Rattle.std.proofs.Common.{map, take}
use Rattle.std.specs.List.{AllByRecursion}
use Rattle.reflect_tables.specs.Types.{ServiceWithin}
use Rattle.reflect_tables.specs.Views.{service_of}
use Rattle.reflect_growth.proofs.within.services_within.Given as goal

abbrev pub invariant-loop-service : goal.invariant-loop-service
invariant-loop-service l = AllByRecursion (ServiceWithin l.counts) (map service_of (take l.service-index l.items))
