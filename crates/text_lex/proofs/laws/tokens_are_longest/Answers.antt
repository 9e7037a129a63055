use Rattle.text_lex.proofs.Lexing.{all_longest}
use Rattle.text_lex.proofs.laws.tokens_are_longest.Goals as goal

pub returns : goal.returns
returns c = all_longest 0
