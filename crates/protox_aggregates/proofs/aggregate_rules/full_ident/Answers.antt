use Rattle.protox_lex.specs.Token.{sign}
use Rattle.protox_aggregates.proofs.AggregateLaws.{dotted_turns}
use Rattle.protox_aggregates.proofs.Turns.{between_goes, between_ends, between_fails, between_stops}
use Rattle.protox_aggregates.proofs.Written.{writes_then}
use Rattle.protox_aggregates.specs.AggregateGrammar.{an_ident_as, dotted}
use Rattle.protox_tokens.specs.Parser.{and_then, pass_in, behind_in, many}
use Rattle.protox_tokens.specs.Refusal.{an_ident}
use Rattle.protox_tokens.specs.Stream.{stream, text}
use Rattle.std.proofs.Common.{◌≡◌, ◌∙◌, ap, sym, Ok, true, false, arith}
use Rattle.std.proofs.lemmas.Result.{err_from_is_err_and}
use Rattle.protox_lex.specs.declared.token.Sign.TheVariants as s
use Rattle.protox_aggregates.proofs.aggregate_rules.full_ident.Goals as goal

pub returns-in_err-eat-clause-reads : goal.returns-in_err-eat-clause-reads
unfolding dotted
returns-in_err-eat-clause-reads c =
    let l = c.parts in
    let p = err_from_is_err_and c.from_residual-in_err-eat.result c.from_residual-in_err-eat.ensures.1 in
    let rest = many (behind_in text (sign s.Dot) (an_ident_as an_ident)) in
    let whole : dotted (stream c.args.tokens.now) ≡ rest (stream l.tokens) =
    ap (λ o. and_then o (λ _. rest)) c.in_ok-ident.ensures.reads ∙ sym l.invariant.so_far in
    rw (p.1, p.2, whole) (between_fails text (sign s.Dot) (an_ident_as an_ident) dotted_turns (stream l.tokens) c.in_err-eat.field-0.0 c.in_err-eat.ensures.reads)

pub parts-preserved : goal.parts-preserved
parts-preserved c =
    let l = c.parts in
    let e : pass_in text (sign s.Dot) (stream l.tokens) ≡ Ok (true, stream c.eat.new.tokens) =
    rw (← c.if-branch.true) c.in_ok-eat.ensures.reads in
    record {
      moves = omega (arith, l.invariant.moves, c.in_ok-eat.ensures.taken c.if-branch.true, c.in_ok-ident-2.ensures.moves);
      so_far = sym (between_goes text (sign s.Dot) (an_ident_as an_ident) dotted_turns (stream l.tokens) (stream c.eat.new.tokens) _ e c.in_ok-ident-2.ensures.reads) ∙ l.invariant.so_far;
      writes = writes_then l.invariant.writes (writes_then c.in_ok-eat.ensures.writes c.in_ok-ident-2.ensures.writes);
    }

pub returns-in_err-ident-2-clause-reads : goal.returns-in_err-ident-2-clause-reads
unfolding dotted
returns-in_err-ident-2-clause-reads c =
    let l = c.parts in
    let p = err_from_is_err_and c.from_residual-in_err-ident-2.result c.from_residual-in_err-ident-2.ensures.1 in
    let rest = many (behind_in text (sign s.Dot) (an_ident_as an_ident)) in
    let whole : dotted (stream c.args.tokens.now) ≡ rest (stream l.tokens) =
    ap (λ o. and_then o (λ _. rest)) c.in_ok-ident.ensures.reads ∙ sym l.invariant.so_far in
    let e : pass_in text (sign s.Dot) (stream l.tokens) ≡ Ok (true, stream c.eat.new.tokens) =
    rw (← c.if-branch.true) c.in_ok-eat.ensures.reads in
    rw (p.1, p.2, whole) (between_stops text (sign s.Dot) (an_ident_as an_ident) dotted_turns (stream l.tokens) c.in_err-ident-2.field-0.0 (stream c.eat.new.tokens) e c.in_err-ident-2.ensures.reads)

pub returns-clause-reads : goal.returns-clause-reads
unfolding dotted
returns-clause-reads c =
    let l = c.parts in
    let rest = many (behind_in text (sign s.Dot) (an_ident_as an_ident)) in
    let e : pass_in text (sign s.Dot) (stream l.tokens) ≡ Ok (false, stream c.eat.new.tokens) =
    rw (← c.if-branch.false) c.in_ok-eat.ensures.reads in
    ap (λ o. and_then o (λ _. rest)) c.in_ok-ident.ensures.reads ∙ sym l.invariant.so_far
    ∙ between_ends text (sign s.Dot) (an_ident_as an_ident) dotted_turns (stream l.tokens) (stream c.eat.new.tokens) e

pub returns-clause-writes : goal.returns-clause-writes
returns-clause-writes c = writes_then c.in_ok-ident.ensures.writes (writes_then c.parts.invariant.writes c.in_ok-eat.ensures.writes)
