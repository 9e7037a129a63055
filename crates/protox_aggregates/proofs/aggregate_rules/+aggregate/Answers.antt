use Rattle.protox_lex.specs.Token.{sign}
use Rattle.protox_aggregates.proofs.AggregateLaws.{list_turns, fields_turns, Local-braces}
use Rattle.protox_aggregates.proofs.Braces.{closed_fails, inside_fails, inside_is, one_less}
use Rattle.protox_aggregates.proofs.Turns.{between_goes, between_ends, between_fails, between_stops, each_goes, each_ends, each_stops}
use Rattle.protox_aggregates.proofs.Written.{then_ok, writes_expected, writes_then}
use Rattle.protox_aggregates.specs.BraceTexts.{WritesTokens}
use Rattle.protox_aggregates.specs.AggregateGrammar.{passes, must, elements_unless, value_with, list_with, field_with, fields_with, braces}
use Rattle.protox_tokens.specs.Parser.{Parser, and_then, ◌>>◌, sees_in, pass_in, behind_in, until_in, many}
use Rattle.protox_tokens.specs.Reads.{Fails}
use Rattle.protox_tokens.specs.Stream.{Stream, stream, text}
use Rattle.protox_tokens.specs.declared.fault.Stop.{Stop}
use Rattle.protox_tokens.specs.declared.fault.Stop.TheVariants.{Memory, Refused}
use Rattle.std.proofs.Common.{◌≡◌, ◌∙◌, ap, sym, Ok, true, false, not, arith, string_bytes}
use Rattle.std.proofs.lemmas.Result.{err_from_is_err_and}
use Rattle.protox_lex.specs.declared.token.Sign.TheVariants as s
use Rattle.protox_aggregates.proofs.aggregate_rules.+aggregate.Goals as goal

pub braces-returns-in_err-span-clause-reads : goal.braces-returns-in_err-span-clause-reads
braces-returns-in_err-span-clause-reads t c =
    let p = err_from_is_err_and c.from_residual.result c.from_residual.ensures.1 in
    rw (p.1, p.2) (closed_fails c.in-Some.open c.in-Some.close (stream c.args.tokens.now) (sym c.closing.ensures ∙ c.in-Some.is) c.in_err-span.field-0.0 c.args.levels c.in_err-span.ensures.reads)

pub braces-returns-in_err-fields-clause-reads : goal.braces-returns-in_err-fields-clause-reads
braces-returns-in_err-fields-clause-reads t c =
    let p = err_from_is_err_and c.from_residual-in_err-fields.result c.from_residual-in_err-fields.ensures.1 in
    rw (p.1, p.2) (inside_fails c.in-Some.open c.in-Some.close (stream c.args.tokens.now) (sym c.closing.ensures ∙ c.in-Some.is) c.in_ok-span.span (stream c.expect_in_text.new.self) c.in_ok-span.ensures.reads c.args.levels _ (one_less c.args.levels c.if-levels-eq0.false) c.in_err-fields.field-0.0 c.in_err-fields.ensures.reads)

pub braces-returns-clause-reads : goal.braces-returns-clause-reads
braces-returns-clause-reads t c =
    rw (inside_is c.in-Some.open c.in-Some.close (stream c.args.tokens.now) (sym c.closing.ensures ∙ c.in-Some.is) c.in_ok-span.span (stream c.expect_in_text.new.self) c.in_ok-span.ensures.reads c.args.levels _ (one_less c.args.levels c.if-levels-eq0.false) (stream c.fields.new.tokens) c.in_ok-fields.ensures.reads) c.expect.ensures.reads

pub fields-fields-preserved : goal.fields-fields-preserved
fields-fields-preserved t c =
    let l = c.fields in
    let n = c.args.levels in
    let e : not (sees_in text (sign c.args.close) (stream l.tokens)) ≡ true = ap not (sym c.sees_in_text.ensures ∙ c.fields-test.true) in
    record {
      moves = omega (arith, l.invariant.moves, c.in_ok-field.ensures.moves);
      so_far = sym (each_goes (λ ts. not (sees_in text (sign c.args.close) ts)) (field_with (braces n)) (fields_turns (braces n) (Local-braces n) c.args.close) (stream l.tokens) _ e c.in_ok-field.ensures.reads) ∙ l.invariant.so_far;
      writes = writes_then l.invariant.writes c.in_ok-field.ensures.writes;
    }

pub fields-returns-in_err-field-clause-reads : goal.fields-returns-in_err-field-clause-reads
unfolding fields_with
fields-returns-in_err-field-clause-reads t c =
    let l = c.fields in
    let n = c.args.levels in
    let p = err_from_is_err_and c.from_residual.result c.from_residual.ensures.1 in
    let whole : fields_with (braces n) c.args.close (stream c.args.tokens.now) ≡ many (until_in text (sign c.args.close) (field_with (braces n))) (stream l.tokens) = sym l.invariant.so_far in
    let e : not (sees_in text (sign c.args.close) (stream l.tokens)) ≡ true = ap not (sym c.sees_in_text.ensures ∙ c.fields-test.true) in
    rw (p.1, p.2, whole) (each_stops (λ ts. not (sees_in text (sign c.args.close) ts)) (field_with (braces n)) (fields_turns (braces n) (Local-braces n) c.args.close) (stream l.tokens) c.in_err-field.field-0.0 e c.in_err-field.ensures.reads)

pub fields-returns-clause-reads : goal.fields-returns-clause-reads
unfolding fields_with
fields-returns-clause-reads t c =
    let l = c.fields in
    let n = c.args.levels in
    let e : not (sees_in text (sign c.args.close) (stream l.tokens)) ≡ false = ap not (sym c.sees_in_text.ensures ∙ c.fields-test.false) in
    sym l.invariant.so_far ∙ each_ends (λ ts. not (sees_in text (sign c.args.close) ts)) (field_with (braces n)) (fields_turns (braces n) (Local-braces n) c.args.close) (stream l.tokens) e

then_fails : (p q : Parser (Unit {0})) (ts : Stream) (e : Stop) → Fails e (p ts) → Fails e ((p >> q) ts)
then_fails p q ts Memory f = tt
then_fails p q ts (Refused g) f = ap (λ o. and_then o (λ _. q)) f

pub list-returns-in_err-eat-2-clause-reads : goal.list-returns-in_err-eat-2-clause-reads
unfolding list_with
list-returns-in_err-eat-2-clause-reads t c =
    let l = c.elements in
    let n = c.args.levels in
    let v = value_with (braces n) in
    let rest = many (behind_in text (sign s.Comma) v) in
    let p = err_from_is_err_and c.from_residual-in_err-eat-2.result c.from_residual-in_err-eat-2.ensures.1 in
    let some : passes s.RightBracket (stream c.args.tokens.now) ≡ Ok (false, stream c.eat.new.tokens) = rw (← c.if-branch.false) c.in_ok-eat.ensures.reads in
    let whole : list_with (braces n) (stream c.args.tokens.now) ≡ (rest >> must s.RightBracket) (stream l.tokens) =
    ap (λ o. and_then o (elements_unless (braces n))) some ∙ ap (λ o. and_then (and_then o (λ _. rest)) (λ _. must s.RightBracket)) c.in_ok-value.ensures.reads ∙ ap (λ o. and_then o (λ _. must s.RightBracket)) (sym l.invariant.so_far) in
    rw (p.1, p.2, whole) (then_fails rest (must s.RightBracket) (stream l.tokens) c.in_err-eat-2.field-0.0 (between_fails text (sign s.Comma) v (list_turns (braces n) (Local-braces n)) (stream l.tokens) c.in_err-eat-2.field-0.0 c.in_err-eat-2.ensures.reads))

pub list-elements-preserved : goal.list-elements-preserved
list-elements-preserved t c =
    let l = c.elements in
    let n = c.args.levels in
    let e : pass_in text (sign s.Comma) (stream l.tokens) ≡ Ok (true, stream c.eat-in-elements.new.tokens) = rw (← c.if-branch-2.true) c.in_ok-eat-2.ensures.reads in
    record {
      moves = omega (arith, l.invariant.moves, c.in_ok-eat-2.ensures.taken c.if-branch-2.true, c.in_ok-value-2.ensures.moves);
      so_far = sym (between_goes text (sign s.Comma) (value_with (braces n)) (list_turns (braces n) (Local-braces n)) (stream l.tokens) (stream c.eat-in-elements.new.tokens) _ e c.in_ok-value-2.ensures.reads) ∙ l.invariant.so_far;
      writes = writes_then l.invariant.writes (writes_then c.in_ok-eat-2.ensures.writes c.in_ok-value-2.ensures.writes);
    }

pub list-returns-in_err-value-2-clause-reads : goal.list-returns-in_err-value-2-clause-reads
unfolding list_with
list-returns-in_err-value-2-clause-reads t c =
    let l = c.elements in
    let n = c.args.levels in
    let v = value_with (braces n) in
    let rest = many (behind_in text (sign s.Comma) v) in
    let p = err_from_is_err_and c.from_residual-in_err-value-2.result c.from_residual-in_err-value-2.ensures.1 in
    let some : passes s.RightBracket (stream c.args.tokens.now) ≡ Ok (false, stream c.eat.new.tokens) = rw (← c.if-branch.false) c.in_ok-eat.ensures.reads in
    let whole : list_with (braces n) (stream c.args.tokens.now) ≡ (rest >> must s.RightBracket) (stream l.tokens) =
    ap (λ o. and_then o (elements_unless (braces n))) some ∙ ap (λ o. and_then (and_then o (λ _. rest)) (λ _. must s.RightBracket)) c.in_ok-value.ensures.reads ∙ ap (λ o. and_then o (λ _. must s.RightBracket)) (sym l.invariant.so_far) in
    let e : pass_in text (sign s.Comma) (stream l.tokens) ≡ Ok (true, stream c.eat-in-elements.new.tokens) = rw (← c.if-branch-2.true) c.in_ok-eat-2.ensures.reads in
    rw (p.1, p.2, whole) (then_fails rest (must s.RightBracket) (stream l.tokens) c.in_err-value-2.field-0.0 (between_stops text (sign s.Comma) v (list_turns (braces n) (Local-braces n)) (stream l.tokens) c.in_err-value-2.field-0.0 (stream c.eat-in-elements.new.tokens) e c.in_err-value-2.ensures.reads))

pub list-returns-clause-reads : goal.list-returns-clause-reads
unfolding list_with
list-returns-clause-reads t c =
    let l = c.elements in
    let n = c.args.levels in
    let v = value_with (braces n) in
    let rest = many (behind_in text (sign s.Comma) v) in
    let some : passes s.RightBracket (stream c.args.tokens.now) ≡ Ok (false, stream c.eat.new.tokens) = rw (← c.if-branch.false) c.in_ok-eat.ensures.reads in
    let e : pass_in text (sign s.Comma) (stream l.tokens) ≡ Ok (false, stream c.eat-in-elements.new.tokens) = rw (← c.if-branch-2.false) c.in_ok-eat-2.ensures.reads in
    let whole : list_with (braces n) (stream c.args.tokens.now) ≡ must s.RightBracket (stream c.eat-in-elements.new.tokens) =
    ap (λ o. and_then o (elements_unless (braces n))) some ∙ ap (λ o. and_then (and_then o (λ _. rest)) (λ _. must s.RightBracket)) c.in_ok-value.ensures.reads ∙ ap (λ o. and_then o (λ _. must s.RightBracket)) (sym l.invariant.so_far ∙ between_ends text (sign s.Comma) v (list_turns (braces n) (Local-braces n)) (stream l.tokens) (stream c.eat-in-elements.new.tokens) e) in
    rw whole c.expect.ensures.reads

pub braces-returns-clause-writes : goal.braces-returns-clause-writes
braces-returns-clause-writes t c =
    let opened : WritesTokens (stream c.args.tokens.now) (string_bytes c.args.text.now) (stream c.expect_in_text.new.self) (string_bytes c.add.new.text) =
    rw c.in_ok-add.ensures (writes_expected (stream c.args.tokens.now) (stream c.expect_in_text.new.self) (string_bytes c.args.text.now) c.in-Some.open c.in_ok-span.span c.in_ok-span.ensures.reads) in
    then_ok _ _ c.expect.result (writes_then opened c.in_ok-fields.ensures.writes) c.expect.ensures.writes

pub field-returns-clause-writes : goal.field-returns-clause-writes
field-returns-clause-writes t c = then_ok _ _ c.separator.result (writes_then c.in_ok-name.ensures.writes c.in_ok-field_value.ensures.writes) c.separator.ensures.writes

pub field_value-returns-then-branch-clause-writes : goal.field_value-returns-then-branch-clause-writes
field_value-returns-then-branch-clause-writes t c = then_ok _ _ c.list.result (writes_then c.in_ok-eat.ensures.writes c.in_ok-eat-2.ensures.writes) c.list.ensures.writes

pub field_value-returns-clause-writes : goal.field_value-returns-clause-writes
field_value-returns-clause-writes t c = then_ok _ _ c.value.result (writes_then c.in_ok-eat.ensures.writes c.in_ok-eat-2.ensures.writes) c.value.ensures.writes

pub list-returns-clause-writes : goal.list-returns-clause-writes
list-returns-clause-writes t c =
    then_ok _ _ c.expect.result (writes_then c.in_ok-eat.ensures.writes (writes_then c.in_ok-value.ensures.writes (writes_then c.elements.invariant.writes c.in_ok-eat-2.ensures.writes)))
    c.expect.ensures.writes
