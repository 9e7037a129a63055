use Rattle.std.proofs.Common.{arith}
use Rattle.protox_lex.proofs.AsciiRuns.{ascii_past, ascii_less}
use Rattle.protox_lex.proofs.class.past.Goals as goal

pub returns-else-is_in-clause-ascii : goal.returns-else-is_in-clause-ascii
returns-else-is_in-clause-ascii c = λ a h. ascii_less _ _ _ (ascii_past c.args.class c.args.z.now c.args.at a h) (omega (arith, c.loop-end.invariant.0))

pub returns-after-loop-end-clause-ascii : goal.returns-after-loop-end-clause-ascii
returns-after-loop-end-clause-ascii c = λ a h. ascii_less _ _ _ (ascii_past c.args.class c.args.z.now c.args.at a h) (omega (arith, c.loop-end.invariant.0))
