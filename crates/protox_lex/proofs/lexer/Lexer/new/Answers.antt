use Rattle.std.proofs.Common.{◌≡◌, List, ℕ}
use Rattle.protox_lex.proofs.Lexing.{all_longest}
use Rattle.protox_lex.proofs.lexer.Lexer.new.Goals as goal

pub returns : goal.returns
returns c = let e : ◌≡◌ {A = List ℕ} c.as_bytes.result.now c.args.source.now = cc in rw e (all_longest _)
