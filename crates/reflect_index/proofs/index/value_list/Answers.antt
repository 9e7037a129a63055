use Rattle.std.proofs.Common.{map, subst}
use Rattle.reflect_tables.specs.Index.{IsIndex, value_key}
use Rattle.reflect_tables.specs.declared.keys.By.TheVariants as by
use Rattle.reflect_index.proofs.index.value_list.Goals as goal

pub invariant_of-result : goal.invariant_of-result
invariant_of-result c = record {
  numbers = subst (λ l. IsIndex (map (value_key by.Number) l) c.in_ok-by_number.by_number.items) c.as_slice.ensures.value c.in_ok-by_number.ensures;
  names = subst (λ l. IsIndex (map (value_key by.Name) l) c.in_ok-by_name.by_name.items) c.as_slice-2.ensures.value c.in_ok-by_name.ensures;
}
