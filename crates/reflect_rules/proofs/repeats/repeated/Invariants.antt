use Rattle.std.proofs.Common.{◌≡◌, ℤ, take}
use Rattle.std.specs.List.{list_any}
use Rattle.std.specs.Ordering.{int_cmp}
use Rattle.std.specs.BTreeSet.{contains}
use Rattle.reflect_declarations.specs.Declarations.{each}
use Rattle.reflect_rules.specs.Repeats.{is_number, repeat_at}
use Rattle.reflect_rules.proofs.repeats.repeated.Given as goal

abbrev pub invariant-turns : goal.invariant-turns
invariant-turns l = record {
  seen : (n : ℤ) → contains int_cmp l.seen n ≡ list_any (is_number n) (take l.place l.numbers);
  found : l.repeated.items ≡ each (repeat_at l.numbers) 0 (take l.place l.numbers);
}
