use Rattle.protox_lex.specs.Token.{sign}
use Rattle.protox_options.proofs.Behind.{Answers, refused}
use Rattle.protox_options.proofs.OptionLaws.{name_turns, Moves-name}
use Rattle.protox_options.specs.OptionGrammar.{name_part, name}
use Rattle.protox_tokens.proofs.Loops.{pushed_some, behind_goes, behind_ends, behind_stops}
use Rattle.protox_tokens.specs.Parser.{and_then, ◌>>=◌, pure, loop, pass, behind}
use Rattle.protox_tokens.specs.Reads.{Fails}
use Rattle.protox_tokens.specs.Stream.{stream}
use Rattle.protox_tree.specs.View.{name_part_view, name_view}
use Rattle.std.proofs.Common.{◌≡◌, ◌++◌, ◌∷◌, [], ap, sym, rules, arith, Ok, true, false}
use Rattle.std.proofs.lemmas.List.{map_push}
use Rattle.std.proofs.lemmas.Result.{err_from_is_err_and}
use Rattle.protox_lex.specs.declared.token.Sign.TheVariants as s
use Rattle.protox_options.proofs.option_rules.name.Goals as goal

pub returns-in_err-first : goal.returns-in_err-first
unfolding name
returns-in_err-first c =
    let p = err_from_is_err_and c.from_residual.result c.from_residual.ensures.1 in
    let e = c.in_err-first.field-0.0 in
    let h : Answers (Fails e) name (stream c.args.tokens.now) =
    refused name_part _ e c.in_err-first.ensures.reads in
    rw (p.1, p.2) (record { reads = h.so; moves = tt; some = tt })

pub returns-in_err-list : goal.returns-in_err-list
returns-in_err-list c =
    let p = err_from_is_err_and c.from_residual-in_err-list.result
    c.from_residual-in_err-list.ensures.1 in
    rw (p.1, p.2) (record { reads = tt; moves = tt; some = tt })

pub rest-init : goal.rest-init
unfolding name
rest-init c =
    record {
      some = rw c.in_ok-list.ensures (omega arith);
      moves = search rules;
      so_far = rw c.in_ok-list.ensures (sym (ap (λ o. and_then o (λ x. loop
          (behind (sign s.Dot) name_part) >>= (λ xs. pure (x ∷ xs)))) c.in_ok-first.ensures.reads));
    }

pub returns-in_err-next : goal.returns-in_err-next
returns-in_err-next c =
    let l = c.rest in
    let p = err_from_is_err_and c.from_residual-in_err-next.result
    c.from_residual-in_err-next.ensures.1 in
    let e : pass (sign s.Dot) (stream l.tokens) ≡ Ok (true, stream c.passes.new.self) =
    rw (← c.rest-test.true) c.passes.ensures.reads in
    rw (p.1, p.2) (record {
      reads = behind_stops (sign s.Dot) name_part name_turns (name_view l.list.items)
          (stream l.tokens)
          (stream c.passes.new.self) _ l.invariant.so_far c.in_err-next.field-0.0 e
          c.in_err-next.ensures.reads;
      moves = tt;
      some = tt;
    })

pub returns-in_err-push : goal.returns-in_err-push
returns-in_err-push c =
    let p = err_from_is_err_and c.from_residual-in_err-push.result
    c.from_residual-in_err-push.ensures.1 in
    rw (p.1, p.2) (record { reads = tt; moves = tt; some = tt })

pub rest-preserved : goal.rest-preserved
rest-preserved c =
    let l = c.rest in
    let e : pass (sign s.Dot) (stream l.tokens) ≡ Ok (true, stream c.passes.new.self) =
    rw (← c.rest-test.true) c.passes.ensures.reads in
    let pushed : name_view c.push.new.self.items ≡ name_view l.list.items ++ name_part_view
    c.in_ok-next.next ∷ [] =
    rw c.in_ok-push.ensures.items (map_push _ l.list.items c.in_ok-next.next) in
    record {
      some = rw c.in_ok-push.ensures.items (pushed_some l.list.items c.in_ok-next.next);
      moves = omega (
        arith,
        l.invariant.moves,
        c.passes.ensures.taken c.rest-test.true,
        c.in_ok-next.ensures.moves,
      );
      so_far =
          rw pushed (behind_goes (sign s.Dot) name_part name_turns (name_view l.list.items)
          (stream l.tokens)
          (stream c.passes.new.self) _ l.invariant.so_far _ _ e c.in_ok-next.ensures.reads);
    }

pub returns : goal.returns
returns c =
    let l = c.rest in
    let e : pass (sign s.Dot) (stream l.tokens) ≡ Ok (false, stream c.passes.new.self) =
    rw (← c.rest-test.false) c.passes.ensures.reads in
    let h : name (stream c.args.tokens.now) ≡ Ok
    (name_view l.list.items, stream c.passes.new.self) =
    behind_ends (sign s.Dot) name_part name_turns (name_view l.list.items) (stream l.tokens)
    (stream c.passes.new.self) _ l.invariant.so_far e in
    record { reads = h; moves = Moves-name.at _ _ _ h; some = search rules }
