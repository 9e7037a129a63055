use Rattle.std.proofs.Common.{◌≡◌, ◌∙◌, rules, subst, to_z, of_z, w32}
use Rattle.descriptor_records.specs.FieldNumbers.{IsTypeOf}
use Rattle.reflect_names.proofs.Numbered.{type_in}
use Rattle.reflect_names.proofs.resolve_visitor.is_type.Goals as goal

pub returns : goal.returns
returns c =
    let bits : to_z w32 (of_z w32 c.args.number) ≡ c.args.number = search rules in
    c.is_some.ensures ∙ type_in c.args.number c.from_number.result (subst (λ n. IsTypeOf n c.from_number.result) bits c.from_number.ensures)
