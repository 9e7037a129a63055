use Rattle.text_view.proofs.Made.{made_given}
use Rattle.text_view.proofs.laws.texts_make_the_message_that_they_give.Goals as goal

pub returns : goal.returns
returns c = made_given
