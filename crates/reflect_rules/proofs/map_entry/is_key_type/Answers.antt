use Rattle.std.proofs.Common.{◌≡◌, false, None, rules, subst, sym, to_z, of_z, w32}
use Rattle.descriptor_records.specs.FieldNumbers.{IsTypeOf}
use Rattle.reflect_rules.specs.MapEntries.{is_key_type}
use Rattle.reflect_rules.proofs.KeyTypes.{no_key}
use Rattle.reflect_rules.proofs.map_entry.is_key_type.Goals as goal

pub returns-in-None : goal.returns-in-None
returns-in-None c =
    let n = c.in-Some.number in
    let bits : to_z w32 (of_z w32 n) ≡ n = search rules in
    let none : IsTypeOf n None = subst (λ m. IsTypeOf m None) bits c.in-None.ensures in
    subst (λ o. false ≡ is_key_type o) (sym c.in-Some.is) (sym (no_key n none))
