use Rattle.text_model.proofs.Back.{equal_texts}
use Rattle.text_model.proofs.laws.equal_messages_have_equal_texts.Goals as goal

pub returns : goal.returns
returns c = equal_texts
