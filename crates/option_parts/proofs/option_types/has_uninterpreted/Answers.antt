use Rattle.std.proofs.Common.{subst}
use Rattle.std.specs.Bool.{Decides}
use Rattle.reflect_tables.specs.Types.{type_of_field}
use Rattle.reflect_message.proofs.Known.{field_found, field_missing}
use Rattle.option_parts.specs.OptionTypes.{ListsMessages}
use Rattle.option_parts.proofs.OptionTypes.{one_decides, none_decides}
use Rattle.option_parts.proofs.option_types.has_uninterpreted.Goals as goal

pub returns-in-Some : goal.returns-in-Some
returns-in-Some c =
    let o = c.args.options in
    let f = c.in-Some.field in
    let here = c.in-Some.ensures in
    let decides = subst (λ m. Decides c.lists_messages.result (ListsMessages m.pool.now (type_of_field m.pool.now m.index f.index))) here.message c.lists_messages.ensures in
    one_decides o.pool.now o.index 999 (ListsMessages o.pool.now) (type_of_field o.pool.now o.index f.index) c.lists_messages.result (field_found o.pool.now o.index 999 f.index here.first) decides

pub returns-in-None : goal.returns-in-None
returns-in-None c =
    let o = c.args.options in
    none_decides o.pool.now o.index 999 (ListsMessages o.pool.now) (field_missing o.pool.now o.index 999 c.in-None.ensures.first)
