use Rattle.text_model.proofs.Merging.{one_message}
use Rattle.text_model.proofs.laws.a_text_gives_one_message.Goals as goal

pub returns : goal.returns
returns c = one_message
