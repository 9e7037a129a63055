use Rattle.stored_options.proofs.Leads.{lead_alike}
use Rattle.stored_options.proofs.names.names_lead_to_the_same_numbers_in_another_order.Goals as goal

pub returns : goal.returns
returns c = lead_alike
