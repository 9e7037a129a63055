use Rattle.text_lex.proofs.Lexing.{all_longest}
use Rattle.text_lex.proofs.lexer.Lexer.new.Goals as goal

pub returns : goal.returns
returns c = all_longest 0 c.args.text.now
