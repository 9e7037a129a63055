use Rattle.text_model.proofs.Orders.{in_order}
use Rattle.text_model.proofs.laws.fields_are_printed_in_order.Goals as goal

pub returns : goal.returns
returns c form e names type = in_order type form names e
