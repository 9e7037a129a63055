use Rattle.std.proofs.Common.{◌≡◌, map, take}
use Rattle.reflect_rules.proofs.enums.value_numbers.Given as goal

abbrev pub invariant-turns : goal.invariant-turns
invariant-turns l = l.numbers.items ≡ map (λ x. x.number) (take l.value-index l.values)
