use Rattle.std.proofs.Common.{◌≡◌, ◌∙◌, rules, subst, to_z, of_z, w32}
use Rattle.descriptor_records.specs.FieldNumbers.{IsLabelOf}
use Rattle.reflect_names.proofs.Numbered.{label_in}
use Rattle.reflect_names.proofs.resolve_visitor.is_label.Goals as goal

pub returns : goal.returns
returns c =
    let bits : to_z w32 (of_z w32 c.args.number) ≡ c.args.number = search rules in
    c.is_some.ensures ∙ label_in c.args.number c.from_number.result (subst (λ n. IsLabelOf n c.from_number.result) bits c.from_number.ensures)
