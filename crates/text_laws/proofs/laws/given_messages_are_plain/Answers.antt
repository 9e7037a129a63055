use Rattle.text_laws.proofs.Suited.{given_plain}
use Rattle.text_laws.proofs.laws.given_messages_are_plain.Goals as goal

pub returns : goal.returns
returns c = given_plain
