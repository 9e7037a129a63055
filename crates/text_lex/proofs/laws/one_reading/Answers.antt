use Rattle.text_lex.proofs.OneReading.{one_list}
use Rattle.text_lex.proofs.laws.one_reading.Goals as goal

pub returns : goal.returns
returns c = one_list
