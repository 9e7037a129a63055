use Rattle.std.proofs.Common.{false, subst}
use Rattle.std.specs.Bool.{Decides}
use Rattle.std.specs.Option.{IfSome}
use Rattle.reflect_tables.specs.Types.{type_of_field}
use Rattle.reflect_message.proofs.Known.{field_found, field_missing}
use Rattle.option_parts.specs.OptionTypes.{HasField, IsTruthValue}
use Rattle.option_parts.proofs.OptionTypes.{one_decides, none_decides}
use Rattle.option_parts.proofs.option_types.has_typed_option.Goals as goal

pub returns-in-Some-get_field : goal.returns-in-Some-get_field
returns-in-Some-get_field c =
    let o = c.args.options in
    let f = c.in-Some-get_field.field in
    let name = c.in-Some.name.now in
    let here = c.in-Some-get_field.ensures in
    let decides = subst (λ m. Decides c.is_plain_truth.result (IsTruthValue name (type_of_field m.pool.now m.index f.index))) here.message c.is_plain_truth.ensures in
    subst (λ t. Decides c.is_plain_truth.result (IfSome t (λ t. HasField o.pool.now o.index t.1 (IsTruthValue t.0)))) c.in-Some.ensures
    (one_decides o.pool.now o.index c.in-Some.number (IsTruthValue name) (type_of_field o.pool.now o.index f.index) c.is_plain_truth.result (field_found o.pool.now o.index c.in-Some.number f.index here.first) decides)

pub returns-in-None : goal.returns-in-None
returns-in-None c =
    let o = c.args.options in
    let n = c.in-Some.number in
    subst (λ t. Decides false (IfSome t (λ t. HasField o.pool.now o.index t.1 (IsTruthValue t.0)))) c.in-Some.ensures
    (none_decides o.pool.now o.index n (IsTruthValue c.in-Some.name.now) (field_missing o.pool.now o.index n c.in-None.ensures.first))
