use Rattle.protox_lex.specs.Token.{sign}
use Rattle.protox_options.proofs.NameLaws.{parts_turns, Local-parts}
use Rattle.protox_options.specs.NameGrammar.{parts_after}
use Rattle.protox_tokens.proofs.Local.{Keeps-local}
use Rattle.protox_tokens.proofs.Loops.{pushed_some, behind_goes, behind_ends, behind_stops}
use Rattle.protox_tokens.specs.Parser.{word, pass}
use Rattle.protox_tokens.specs.Stream.{stream}
use Rattle.protox_tree.specs.View.{ident_view, idents_view}
use Rattle.std.proofs.Common.{◌≡◌, ◌++◌, ◌∷◌, [], refl, rules, arith, Ok, true, false}
use Rattle.std.proofs.lemmas.List.{map_push}
use Rattle.std.proofs.lemmas.Result.{err_from_is_err_and}
use Rattle.protox_lex.specs.declared.token.Sign.TheVariants as s
use Rattle.protox_options.proofs.names.parts_after.Goals as goal

pub returns-in_err-list : goal.returns-in_err-list
returns-in_err-list c =
    let p = err_from_is_err_and c.from_residual.result c.from_residual.ensures.1 in
    rw (p.1, p.2) (record { reads = tt; moves = tt })

pub rest-init : goal.rest-init
unfolding parts_after
rest-init c =
    record {
      some = rw c.in_ok-list.ensures (omega arith);
      moves = search rules;
      so_far = rw c.in_ok-list.ensures refl;
    }

pub returns-in_err-next : goal.returns-in_err-next
returns-in_err-next c =
    let l = c.rest in
    let p = err_from_is_err_and c.from_residual-in_err-next.result
    c.from_residual-in_err-next.ensures.1 in
    let e : pass (sign s.Dot) (stream l.tokens) ≡ Ok (true, stream c.passes.new.self) =
    rw (← c.rest-test.true) c.passes.ensures.reads in
    rw (p.1, p.2) (record {
      reads = behind_stops (sign s.Dot) word parts_turns (idents_view l.list.items)
          (stream l.tokens)
          (stream c.passes.new.self) _ l.invariant.so_far c.in_err-next.field-0.0 e
          c.in_err-next.ensures.reads;
      moves = tt;
    })

pub returns-in_err-push : goal.returns-in_err-push
returns-in_err-push c =
    let p = err_from_is_err_and c.from_residual-in_err-push.result
    c.from_residual-in_err-push.ensures.1 in
    rw (p.1, p.2) (record { reads = tt; moves = tt })

pub rest-preserved : goal.rest-preserved
rest-preserved c =
    let l = c.rest in
    let e : pass (sign s.Dot) (stream l.tokens) ≡ Ok (true, stream c.passes.new.self) =
    rw (← c.rest-test.true) c.passes.ensures.reads in
    let pushed : idents_view c.push.new.self.items ≡ idents_view l.list.items ++ ident_view
    c.in_ok-next.next ∷ [] =
    rw c.in_ok-push.ensures.items (map_push _ l.list.items c.in_ok-next.next) in
    record {
      some = rw c.in_ok-push.ensures.items (pushed_some l.list.items c.in_ok-next.next);
      moves = omega (
        arith,
        l.invariant.moves,
        c.passes.ensures.taken c.rest-test.true,
        c.in_ok-next.ensures.moves,
      );
      so_far =
          rw pushed (behind_goes (sign s.Dot) word parts_turns (idents_view l.list.items)
          (stream l.tokens)
          (stream c.passes.new.self) _ l.invariant.so_far _ _ e c.in_ok-next.ensures.reads);
    }

pub returns : goal.returns
returns c =
    let l = c.rest in
    let e : pass (sign s.Dot) (stream l.tokens) ≡ Ok (false, stream c.passes.new.self) =
    rw (← c.rest-test.false) c.passes.ensures.reads in
    let h : parts_after (ident_view c.args.first) (stream c.args.tokens.now) ≡ Ok
    (idents_view l.list.items, stream c.passes.new.self) =
    behind_ends (sign s.Dot) word parts_turns (idents_view l.list.items) (stream l.tokens)
    (stream c.passes.new.self) _ l.invariant.so_far e in
    record {
      reads = rw c.from_idents.ensures h;
      moves = (Keeps-local (Local-parts (ident_view c.args.first))).at _ _ _ h;
    }
