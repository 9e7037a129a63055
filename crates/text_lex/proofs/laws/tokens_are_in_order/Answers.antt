use Rattle.text_lex.proofs.Orders.{in_order}
use Rattle.text_lex.proofs.laws.tokens_are_in_order.Goals as goal

pub returns : goal.returns
returns c = in_order
