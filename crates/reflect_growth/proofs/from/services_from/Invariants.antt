use Rattle.std.proofs.Common.{◌≤◌, map, take}
use Rattle.std.specs.List.{AllByRecursion}
use Rattle.reflect_tables.specs.Views.{service_of}
use Rattle.reflect_growth.proofs.from.services_from.Given as goal

abbrev pub invariant-loop-service : goal.invariant-loop-service
invariant-loop-service l = AllByRecursion (λ x. l.first ≤ x.file) (map service_of (take l.service-index l.items))
