use Rattle.std.proofs.Common.{rules, ◌≡◌, Some, ap, sym, ◌∙◌, to_z, of_z, w32}
use Rattle.std.specs.Option.{option_and_then}
use Rattle.reflect_pool.specs.Parts.{type_of_value}
use Rattle.reflect_format.specs.Enums.{number_named}
use Rattle.reflect_format.proofs.Enumerated.{number_found, number_missing}
use Rattle.option_setter.proofs.option_value.enum_number.Goals as goal

-- src/option_value.rt:88:10
pub returns-in_err-get_value_by_name : goal.returns-in_err-get_value_by_name
returns-in_err-get_value_by_name c =
    c.from_residual-in_err-get_value_by_name.ensures
    ∙ sym (number_missing c.args.kind c.in_ok-identifier.field-0.now c.in_err-get_value_by_name.ensures.first)
    ∙ ap (option_and_then (number_named c.args.kind)) c.in_ok-identifier.ensures

-- src/option_value.rt:84:1
pub returns : goal.returns
returns c =
    let value = c.in_ok-get_value_by_name.field-0 in
    let bits : to_z w32 (of_z w32 c.number.result) ≡ c.number.result = search rules in
    ap Some (bits ∙ c.number.ensures ∙ ap (λ e. (type_of_value e.pool.now e.index value.index).number) c.in_ok-get_value_by_name.ensures.enumeration)
    ∙ sym (number_found c.args.kind c.in_ok-identifier.field-0.now value.index c.in_ok-get_value_by_name.ensures.first)
    ∙ ap (option_and_then (number_named c.args.kind)) c.in_ok-identifier.ensures
