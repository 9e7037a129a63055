use Rattle.text_model.proofs.Expanding.{printed_back}
use Rattle.text_model.proofs.laws.printed_fields_give_the_message.Goals as goal

pub returns : goal.returns
returns c = printed_back
