use Rattle.stored_options.proofs.Leads.{lead_alike}
use Rattle.stored_options.proofs.InOrders.{given_alike}
use Rattle.stored_options.proofs.orders.options_settle_alike_in_another_order.Goals as goal

pub returns : goal.returns
returns c = λ batches others p q s t file name scope o x settled other paths ways ends here there.
    given_alike batches others p q s t file name scope o x settled other paths ways ends here there
    (lead_alike batches others p q s t file name ends here there)
