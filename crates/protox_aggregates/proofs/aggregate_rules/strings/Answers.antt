use Rattle.protox_aggregates.proofs.AggregateLaws.{literals_turns}
use Rattle.protox_aggregates.proofs.Turns.{each_goes, each_ends, each_stops}
use Rattle.protox_aggregates.proofs.Written.{writes_then}
use Rattle.protox_aggregates.specs.AggregateGrammar.{a_literal, literals}
use Rattle.protox_tokens.specs.Parser.{and_then, when, many, is_string_in}
use Rattle.protox_tokens.specs.Stream.{stream, text}
use Rattle.std.proofs.Common.{◌≡◌, ◌∙◌, ap, sym, true, false, arith}
use Rattle.std.proofs.lemmas.Result.{err_from_is_err_and}
use Rattle.protox_aggregates.proofs.aggregate_rules.strings.Goals as goal

pub literals-preserved : goal.literals-preserved
literals-preserved c =
    let l = c.literals in
    let e : is_string_in text (stream l.tokens) ≡ true = sym c.is_string.ensures ∙ c.literals-test.true in
    record {
      moves = omega (arith, l.invariant.moves, c.in_ok-literal-2.ensures.moves);
      so_far = sym (each_goes (is_string_in text) a_literal literals_turns (stream l.tokens) _ e c.in_ok-literal-2.ensures.reads) ∙ l.invariant.so_far;
      writes = writes_then l.invariant.writes c.in_ok-literal-2.ensures.writes;
    }

pub returns-in_err-literal-2-clause-reads : goal.returns-in_err-literal-2-clause-reads
unfolding literals
returns-in_err-literal-2-clause-reads c =
    let l = c.literals in
    let p = err_from_is_err_and c.from_residual-in_err-literal-2.result c.from_residual-in_err-literal-2.ensures.1 in
    let rest = many (when (is_string_in text) a_literal) in
    let whole : literals (stream c.args.tokens.now) ≡ rest (stream l.tokens) =
    ap (λ o. and_then o (λ _. rest)) c.in_ok-literal.ensures.reads ∙ sym l.invariant.so_far in
    let e : is_string_in text (stream l.tokens) ≡ true = sym c.is_string.ensures ∙ c.literals-test.true in
    rw (p.1, p.2, whole) (each_stops (is_string_in text) a_literal literals_turns (stream l.tokens) c.in_err-literal-2.field-0.0 e c.in_err-literal-2.ensures.reads)

pub returns-clause-reads : goal.returns-clause-reads
unfolding literals
returns-clause-reads c =
    let l = c.literals in
    let rest = many (when (is_string_in text) a_literal) in
    let e : is_string_in text (stream l.tokens) ≡ false = sym c.is_string.ensures ∙ c.literals-test.false in
    ap (λ o. and_then o (λ _. rest)) c.in_ok-literal.ensures.reads ∙ sym l.invariant.so_far
    ∙ each_ends (is_string_in text) a_literal literals_turns (stream l.tokens) e

pub returns-clause-writes : goal.returns-clause-writes
returns-clause-writes c = writes_then c.in_ok-literal.ensures.writes c.literals.invariant.writes
