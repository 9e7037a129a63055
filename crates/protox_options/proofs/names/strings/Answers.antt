use Rattle.protox_options.proofs.Behind.{Answers, refused}
use Rattle.protox_options.proofs.NameLaws.{strings_turns, Moves-strings}
use Rattle.protox_options.specs.NameGrammar.{strings}
use Rattle.protox_tokens.proofs.Loops.{pushed_some, when_goes, when_ends, when_stops}
use Rattle.protox_tokens.specs.Parser.{and_then, ◌>>=◌, pure, literal, loop, is_string, when}
use Rattle.protox_tokens.specs.Reads.{Fails}
use Rattle.protox_tokens.specs.Stream.{stream}
use Rattle.protox_tree.specs.View.{literal_view, literals_view}
use Rattle.std.proofs.Common.{◌≡◌, ◌∙◌, ◌++◌, ◌∷◌, [], ap, sym, rules, arith, Ok, true, false}
use Rattle.std.proofs.lemmas.List.{map_push}
use Rattle.std.proofs.lemmas.Result.{err_from_is_err_and}
use Rattle.protox_options.proofs.names.strings.Goals as goal

pub returns-in_err-first : goal.returns-in_err-first
unfolding strings
returns-in_err-first c =
    let p = err_from_is_err_and c.from_residual.result c.from_residual.ensures.1 in
    let e = c.in_err-first.field-0.0 in
    let h : Answers (Fails e) strings (stream c.args.tokens.now) =
    refused literal _ e c.in_err-first.ensures.reads in
    rw (p.1, p.2) (record { reads = h.so; moves = tt })

pub returns-in_err-list : goal.returns-in_err-list
returns-in_err-list c =
    let p = err_from_is_err_and c.from_residual-in_err-list.result
    c.from_residual-in_err-list.ensures.1 in
    rw (p.1, p.2) (record { reads = tt; moves = tt })

pub rest-init : goal.rest-init
unfolding strings
rest-init c =
    record {
      some = rw c.in_ok-list.ensures (omega arith);
      moves = search rules;
      so_far =
          rw c.in_ok-list.ensures (sym (ap (λ o. and_then o (λ x. loop (when is_string literal) >>=
          (λ xs. pure (x ∷ xs)))) c.in_ok-first.ensures.reads));
    }

pub returns-in_err-next : goal.returns-in_err-next
returns-in_err-next c =
    let l = c.rest in
    let p = err_from_is_err_and c.from_residual-in_err-next.result
    c.from_residual-in_err-next.ensures.1 in
    let e : is_string (stream l.tokens) ≡ true = sym c.is_string.ensures ∙ c.rest-test.true in
    rw (p.1, p.2) (record {
      reads = when_stops is_string literal strings_turns (literals_view l.list.items)
          (stream l.tokens) _ l.invariant.so_far c.in_err-next.field-0.0 e c.in_err-next.ensures.reads;
      moves = tt;
    })

pub returns-in_err-push : goal.returns-in_err-push
returns-in_err-push c =
    let p = err_from_is_err_and c.from_residual-in_err-push.result
    c.from_residual-in_err-push.ensures.1 in
    rw (p.1, p.2) (record { reads = tt; moves = tt })

pub rest-preserved : goal.rest-preserved
rest-preserved c =
    let l = c.rest in
    let e : is_string (stream l.tokens) ≡ true = sym c.is_string.ensures ∙ c.rest-test.true in
    let pushed : literals_view c.push.new.self.items ≡ literals_view l.list.items ++ literal_view
    c.in_ok-next.next ∷ [] =
    rw c.in_ok-push.ensures.items (map_push _ l.list.items c.in_ok-next.next) in
    record {
      some = rw c.in_ok-push.ensures.items (pushed_some l.list.items c.in_ok-next.next);
      moves = omega (arith, l.invariant.moves, c.in_ok-next.ensures.moves);
      so_far = rw pushed
          (when_goes is_string literal strings_turns (literals_view l.list.items)
          (stream l.tokens) _ l.invariant.so_far _ _ e c.in_ok-next.ensures.reads);
    }

pub returns : goal.returns
returns c =
    let l = c.rest in
    let e : is_string (stream l.tokens) ≡ false = sym c.is_string.ensures ∙ c.rest-test.false in
    let h : strings (stream c.args.tokens.now) ≡ Ok (literals_view l.list.items, stream l.tokens) =
    when_ends is_string literal strings_turns (literals_view l.list.items)
    (stream l.tokens) _ l.invariant.so_far e in
    record { reads = rw c.from_literals.ensures h; moves = Moves-strings.at _ _ _ h }
