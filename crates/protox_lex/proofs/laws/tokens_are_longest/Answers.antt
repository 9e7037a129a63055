use Rattle.protox_lex.proofs.Lexing.{all_longest}
use Rattle.protox_lex.proofs.laws.tokens_are_longest.Goals as goal

pub returns : goal.returns
returns c = all_longest
