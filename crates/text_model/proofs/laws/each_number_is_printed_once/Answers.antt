use Rattle.text_model.proofs.Orders.{order_once}
use Rattle.text_model.proofs.laws.each_number_is_printed_once.Goals as goal

pub returns : goal.returns
returns c form names type h n some small = order_once form names type h.declared n (some, small)
