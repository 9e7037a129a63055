use Rattle.protox_lex.proofs.StringMeaning.{means_one}
use Rattle.protox_lex.proofs.laws.contents_have_one_meaning.Goals as goal

pub returns : goal.returns
returns c = means_one
