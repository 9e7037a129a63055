use Rattle.protox_declarations.proofs.ServiceLaws.{service_turns, Moves-service}
use Rattle.protox_declarations.specs.ServiceGrammar.{service_item, service_items, service}
use Rattle.protox_lex.specs.Token.{ident, sign}
use Rattle.protox_options.proofs.Behind.{Answers, behind, refused, last}
use Rattle.protox_options.proofs.Turns.{turn_goes, turns_end, turn_stops}
use Rattle.protox_tokens.proofs.Loops.{none_before}
use Rattle.protox_tokens.specs.Parser.{expect, word}
use Rattle.protox_tokens.specs.Reads.{Fails}
use Rattle.protox_tokens.specs.Span.{across}
use Rattle.protox_tokens.specs.Stream.{stream}
use Rattle.protox_tree.specs.Tree.{Service}
use Rattle.protox_tree.specs.View.{ident_view, service_item_view, service_items_view}
use Rattle.std.proofs.Common.{◌≡◌, ◌∙◌, ◌++◌, ◌∷◌, [], sym, refl, rules, arith, Ok}
use Rattle.std.proofs.lemmas.List.{map_push}
use Rattle.std.proofs.lemmas.Result.{err_from_is_err_and}
use Rattle.std.specs.Prelude.{codes}
use Rattle.protox_lex.specs.declared.token.Sign.TheVariants as s
use Rattle.protox_declarations.proofs.services.service.Goals as goal

pub returns-in_err-first : goal.returns-in_err-first
unfolding service
returns-in_err-first c =
    let p = err_from_is_err_and c.from_residual.result c.from_residual.ensures.1 in
    let e = c.in_err-first.field-0.0 in
    let h : Answers (Fails e) service (stream c.args.tokens.now) =
    refused (expect (ident (codes "service"))) _ e c.in_err-first.ensures.reads in
    rw (p.1, p.2) (record { reads = h.so; moves = tt })

pub returns-in_err-name : goal.returns-in_err-name
unfolding service
returns-in_err-name c =
    let r = c.from_residual-in_err-name in
    let p = err_from_is_err_and r.result r.ensures.1 in
    let e = c.in_err-name.field-0.0 in
    let h : Answers (Fails e) service (stream c.args.tokens.now) =
    behind (expect (ident (codes "service"))) _ c.in_ok-first.ensures.reads
    (refused word _ e c.in_err-name.ensures.reads) in
    rw (p.1, p.2) (record { reads = h.so; moves = tt })

pub returns-in_err-open : goal.returns-in_err-open
unfolding service
returns-in_err-open c =
    let r = c.from_residual-in_err-open in
    let p = err_from_is_err_and r.result r.ensures.1 in
    let e = c.in_err-open.field-0.0 in
    let h : Answers (Fails e) service (stream c.args.tokens.now) =
    behind (expect (ident (codes "service"))) _ c.in_ok-first.ensures.reads
    (behind word _ c.in_ok-name.ensures.reads
    (refused (expect (sign s.LeftBrace)) _ e c.in_err-open.ensures.reads)) in
    rw (p.1, p.2) (record { reads = h.so; moves = tt })

pub items-init : goal.items-init
unfolding service_items
items-init c =
    record { moves = search rules; so_far = rw c.new-items.ensures.items (none_before _) }

pub items-preserved : goal.items-preserved
items-preserved c =
    let l = c.items in
    let pushed : service_items_view c.push.new.self.items ≡ service_items_view l.items.items ++
    service_item_view c.in_ok-item.item ∷ [] =
    rw c.in_ok-push.ensures.items (map_push _ l.items.items c.in_ok-item.item) in
    record {
      moves = omega (arith, l.invariant.moves, c.in_ok-item.ensures.moves);
      so_far = rw pushed
          (turn_goes service_item service_turns (service_items_view l.items.items)
          (stream l.tokens) l.invariant.so_far (sym c.sees_sign.ensures
          ∙ c.items-test.true) c.in_ok-item.ensures.reads);
    }

pub returns-in_err-item : goal.returns-in_err-item
unfolding service
returns-in_err-item c =
    let r = c.from_residual-in_err-item in
    let p = err_from_is_err_and r.result r.ensures.1 in
    let e = c.in_err-item.field-0.0 in
    let l = c.items in
    let h : Answers (Fails e) service (stream c.args.tokens.now) =
    behind (expect (ident (codes "service"))) _ c.in_ok-first.ensures.reads
    (behind word _ c.in_ok-name.ensures.reads
    (behind (expect (sign s.LeftBrace)) _ c.in_ok-open.ensures.reads (refused service_items _ e
    (turn_stops service_item service_turns (service_items_view l.items.items)
    (stream l.tokens) l.invariant.so_far e (sym c.sees_sign.ensures
    ∙ c.items-test.true) c.in_err-item.ensures.reads)))) in
    rw (p.1, p.2) (record { reads = h.so; moves = tt })

pub returns-in_err-close : goal.returns-in_err-close
unfolding service
returns-in_err-close c =
    let r = c.from_residual-in_err-close in
    let p = err_from_is_err_and r.result r.ensures.1 in
    let e = c.in_err-close.field-0.0 in
    let l = c.items in
    let h : Answers (Fails e) service (stream c.args.tokens.now) =
    behind (expect (ident (codes "service"))) _ c.in_ok-first.ensures.reads
    (behind word _ c.in_ok-name.ensures.reads
    (behind (expect (sign s.LeftBrace)) _ c.in_ok-open.ensures.reads (behind service_items _
    (turns_end service_item service_turns (service_items_view l.items.items)
    (stream l.tokens) l.invariant.so_far (sym c.sees_sign.ensures ∙ c.items-test.false))
    (refused (expect (sign s.RightBrace)) _ e c.in_err-close.ensures.reads)))) in
    rw (p.1, p.2) (record { reads = h.so; moves = tt })

pub returns : goal.returns
unfolding service
returns c =
    let l = c.items in
    let x : Service = record {
      name = ident_view c.in_ok-name.name;
      braces = across c.in_ok-open.open c.in_ok-close.close;
      items = service_items_view l.items.items;
      span = across c.in_ok-first.first c.in_ok-close.close;
    } in
    let h : Answers (λ o. o ≡ Ok (x, stream c.expect_sign-2.new.self)) service
    (stream c.args.tokens.now) =
    behind (expect (ident (codes "service"))) _ c.in_ok-first.ensures.reads
    (behind word _ c.in_ok-name.ensures.reads
    (behind (expect (sign s.LeftBrace)) _ c.in_ok-open.ensures.reads (behind service_items _
    (turns_end service_item service_turns (service_items_view l.items.items)
    (stream l.tokens) l.invariant.so_far (sym c.sees_sign.ensures ∙ c.items-test.false))
    (behind (expect (sign s.RightBrace)) _ c.in_ok-close.ensures.reads (last _ refl))))) in
    record {
      reads = rw (c.across.ensures, c.across-2.ensures) h.so;
      moves = Moves-service.at _ _ _ h.so;
    }
