use Rattle.std.proofs.Common.{◌≡◌, Some, map, subst, sym, rules}
use Rattle.std.specs.Bool.{Decides}
use Rattle.reflect_tables.specs.Views.{value_of}
use Rattle.reflect_passes.specs.Linked.{HasValue, enum_at}
use Rattle.reflect_passes.proofs.Named.{first_decides}
use Rattle.reflect_passes.proofs.linked_types.LinkedTypesTypes.has_value.Goals as goal

pub returns-in-Some : goal.returns-in-Some
returns-in-Some c =
    let name = c.args.name.now in
    let e = c.in-Some.enumeration.now in
    let is : enum_at c.args.self.now c.args.enumeration ≡ Some e = search rules in
    let found = first_decides (λ v. v.name ≡ name) (map value_of e.values.list.items) c.of_name.result c.of_name.ensures in
    let said = subst (λ b. Decides b (HasValue (Some e) name)) (sym c.is_some.ensures) found in
    subst (λ o. Decides c.is_some.result (HasValue o name)) (sym is) said
