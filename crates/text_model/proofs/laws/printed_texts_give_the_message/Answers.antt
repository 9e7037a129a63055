use Rattle.text_model.proofs.Back.{printed_text_back}
use Rattle.text_model.proofs.laws.printed_texts_give_the_message.Goals as goal

pub returns : goal.returns
returns c = printed_text_back
