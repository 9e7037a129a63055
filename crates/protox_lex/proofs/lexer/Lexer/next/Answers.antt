use Rattle.std.proofs.Common.{◌∙◌, sym, ap, arith, length}
use Rattle.protox_lex.proofs.Streams.{gap_here, token_here, fault_here, end_here}
use Rattle.protox_lex.proofs.lexer.Lexer.next.Goals as goal

pub returns-in-Err-clause-err : goal.returns-in-Err-clause-err
returns-in-Err-clause-err c =
    let l = c.loop-self in
    (sym l.invariant.same ∙ fault_here l.self.at c.in-Err.flaw l.self.source.now c.args.self.now.source.now l.invariant.source (omega arith) c.in-Err.ensures.value, l.invariant.same)

pub loop-self-preserved : goal.loop-self-preserved
loop-self-preserved c =
    let l = c.loop-self in
    let n = c.in-Ok-Gap-default.len in
    let e = rw c.in-Ok-Gap-default.field-0-0-is at c.in-Ok-Gap-default.ensures in
    record {
      same = sym (gap_here l.self.at n l.self.source.now c.args.self.now.source.now l.invariant.source e.value e.within.0 e.within.1) ∙ l.invariant.same;
      unread = omega (arith, l.invariant.unread, ap length l.invariant.source, e.within.0);
      source = l.invariant.source;
    }

pub returns-in-Ok-Token-default-clause-ok : goal.returns-in-Ok-Token-default-clause-ok
returns-in-Ok-Token-default-clause-ok c =
    let l = c.loop-self in
    let n = c.in-Ok-Token-default.len in
    let e = rw c.in-Ok-Token-default.field-0-0-is at c.in-Ok-Token-default.ensures in
    sym l.invariant.same ∙ token_here l.self.at n _ l.self.source.now c.args.self.now.source.now l.invariant.source e.value e.within.0 e.within.1

pub returns-clause-ok : goal.returns-clause-ok
returns-clause-ok c =
    let l = c.loop-self in
    let none = end_here l.self.at l.self.source.now c.args.self.now.source.now l.invariant.source (omega arith) in
    (sym l.invariant.same ∙ none, none)
