use Rattle.texts_view.proofs.Grown.{written_again}
use Rattle.texts_view.proofs.growth.given_messages_are_written_alike.Goals as goal

pub returns : goal.returns
returns c = written_again
