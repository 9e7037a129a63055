use Rattle.std.proofs.Common.{◌≡◌, ◌<◌, ◌+◌, ◌^◌, drop, sum_by}
use Rattle.reflect_build.specs.Many.{in_enum, as_u64}
use Rattle.reflect_build.proofs.many.count_enums.Given as goal

abbrev pub invariant-enums : goal.invariant-enums
invariant-enums l = record {
  counted : as_u64 (l.count + sum_by in_enum (drop l.enumeration-index l.enums)) ≡ as_u64 (sum_by in_enum l.enums);
  small : l.count < 2 ^ 64;
}
