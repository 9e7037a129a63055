use Rattle.std.proofs.Common.{◌≡◌, ◌<◌, ◌+◌, ◌^◌, drop, sum_by}
use Rattle.reflect_build.specs.Many.{in_service, as_u64}
use Rattle.reflect_build.proofs.many.count_services.Given as goal

abbrev pub invariant-services : goal.invariant-services
invariant-services l = record {
  counted : as_u64 (l.count + sum_by in_service (drop l.service-index l.services)) ≡ as_u64 (sum_by in_service l.services);
  small : l.count < 2 ^ 64;
}
