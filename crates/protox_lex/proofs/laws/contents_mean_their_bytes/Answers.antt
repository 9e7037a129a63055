use Rattle.protox_lex.proofs.StringMeaning.{means_its_bytes}
use Rattle.protox_lex.proofs.laws.contents_mean_their_bytes.Goals as goal

pub returns : goal.returns
returns c = means_its_bytes
