use Rattle.protox_declarations.proofs.ServiceLaws.{method_turns, Moves-method_body}
use Rattle.protox_declarations.specs.ServiceGrammar.{method_item, method_items, method_body}
use Rattle.protox_lex.specs.Token.{sign}
use Rattle.protox_options.proofs.Behind.{Answers, behind, refused, last}
use Rattle.protox_options.proofs.Turns.{turn_goes, turns_end, turn_stops}
use Rattle.protox_tokens.proofs.Loops.{none_before}
use Rattle.protox_tokens.specs.Parser.{eat, expect}
use Rattle.protox_tokens.specs.Reads.{Fails}
use Rattle.protox_tokens.specs.Span.{across}
use Rattle.protox_tokens.specs.Stream.{stream}
use Rattle.protox_tree.specs.Tree.{MethodBody}
use Rattle.protox_tree.specs.View.{method_item_view, method_items_view}
use Rattle.std.proofs.Common.{◌≡◌, ◌∙◌, ◌++◌, ◌∷◌, [], sym, refl, rules, arith, Ok, Some, None, Option, ℕ}
use Rattle.std.proofs.lemmas.List.{map_push}
use Rattle.std.proofs.lemmas.Result.{err_from_is_err_and}
use Rattle.protox_lex.specs.declared.token.Sign.TheVariants as s
use Rattle.protox_declarations.proofs.services.method_body.Goals as goal

pub returns-in_err-last : goal.returns-in_err-last
unfolding method_body
returns-in_err-last c =
    let p = err_from_is_err_and c.from_residual.result c.from_residual.ensures.1 in
    let e = c.in_err-last.field-0.0 in
    let h : Answers (Fails e) method_body (stream c.args.tokens.now) =
    behind (eat (sign s.LeftBrace)) _ c.in_default.ensures.reads
    (refused (expect (sign s.Semicolon)) _ e c.in_err-last.ensures.reads) in
    rw (p.1, p.2) (record { reads = h.so; moves = tt })

pub returns-in_default : goal.returns-in_default
unfolding method_body
returns-in_default c =
    let x : Option MethodBody × ℕ = (None, c.in_ok-last.last.end) in
    let h : Answers (λ o. o ≡ Ok (x, stream c.expect_sign.new.self)) method_body
    (stream c.args.tokens.now) =
    behind (eat (sign s.LeftBrace)) _ c.in_default.ensures.reads
    (behind (expect (sign s.Semicolon)) _ c.in_ok-last.ensures.reads (last _ refl)) in
    record { reads = h.so; moves = Moves-method_body.at _ _ _ h.so }

pub items-init : goal.items-init
unfolding method_items
items-init c =
    record { moves = search rules; so_far = rw c.new-items.ensures.items (none_before _) }

pub items-preserved : goal.items-preserved
items-preserved c =
    let l = c.items in
    let pushed : method_items_view c.push.new.self.items ≡ method_items_view l.items.items ++
    method_item_view c.in_ok-item.item ∷ [] =
    rw c.in_ok-push.ensures.items (map_push _ l.items.items c.in_ok-item.item) in
    record {
      moves = omega (arith, l.invariant.moves, c.in_ok-item.ensures.moves);
      so_far = rw pushed
          (turn_goes method_item method_turns (method_items_view l.items.items)
          (stream l.tokens) l.invariant.so_far (sym c.sees_sign.ensures
          ∙ c.items-test.true) c.in_ok-item.ensures.reads);
    }

pub returns-in_err-item : goal.returns-in_err-item
unfolding method_body
returns-in_err-item c =
    let r = c.from_residual-in_err-item in
    let p = err_from_is_err_and r.result r.ensures.1 in
    let e = c.in_err-item.field-0.0 in
    let l = c.items in
    let h : Answers (Fails e) method_body (stream c.args.tokens.now) =
    behind (eat (sign s.LeftBrace)) _ c.in-Some.ensures.reads (refused method_items _ e
    (turn_stops method_item method_turns (method_items_view l.items.items)
    (stream l.tokens) l.invariant.so_far e (sym c.sees_sign.ensures
    ∙ c.items-test.true) c.in_err-item.ensures.reads)) in
    rw (p.1, p.2) (record { reads = h.so; moves = tt })

pub returns-in_err-close : goal.returns-in_err-close
unfolding method_body
returns-in_err-close c =
    let r = c.from_residual-in_err-close in
    let p = err_from_is_err_and r.result r.ensures.1 in
    let e = c.in_err-close.field-0.0 in
    let l = c.items in
    let h : Answers (Fails e) method_body (stream c.args.tokens.now) =
    behind (eat (sign s.LeftBrace)) _ c.in-Some.ensures.reads (behind method_items _
    (turns_end method_item method_turns (method_items_view l.items.items)
    (stream l.tokens) l.invariant.so_far (sym c.sees_sign.ensures ∙ c.items-test.false))
    (refused (expect (sign s.RightBrace)) _ e c.in_err-close.ensures.reads)) in
    rw (p.1, p.2) (record { reads = h.so; moves = tt })

pub returns : goal.returns
unfolding method_body
returns c =
    let l = c.items in
    let x : Option MethodBody × ℕ = (
      Some
          (record {
            braces = across c.in-Some.open c.in_ok-close.close;
            items = method_items_view
                l.items.items;
          }),
      c.in_ok-close.close.end,
    ) in
    let h : Answers (λ o. o ≡ Ok (x, stream c.expect_sign-2.new.self)) method_body
    (stream c.args.tokens.now) =
    behind (eat (sign s.LeftBrace)) _ c.in-Some.ensures.reads (behind method_items _
    (turns_end method_item method_turns (method_items_view l.items.items)
    (stream l.tokens) l.invariant.so_far (sym c.sees_sign.ensures ∙ c.items-test.false))
    (behind (expect (sign s.RightBrace)) _ c.in_ok-close.ensures.reads (last _ refl))) in
    record { reads = rw c.across-braces.ensures h.so; moves = Moves-method_body.at _ _ _ h.so }
