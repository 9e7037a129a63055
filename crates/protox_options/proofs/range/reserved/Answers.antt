use Rattle.protox_lex.specs.Token.{ident, sign}
use Rattle.protox_options.proofs.Behind.{Answers, behind, refused, last}
use Rattle.protox_options.proofs.RangeLaws.{Moves-reserved}
use Rattle.protox_options.specs.RangeGrammar.{reserved_items, reserved}
use Rattle.protox_tokens.specs.Parser.{expect}
use Rattle.protox_tokens.specs.Reads.{Fails}
use Rattle.protox_tokens.specs.Span.{across}
use Rattle.protox_tokens.specs.Stream.{stream}
use Rattle.protox_tree.specs.Tree.{Reserved}
use Rattle.protox_tree.specs.View.{reserved_items_view}
use Rattle.std.proofs.Common.{◌≡◌, refl, Ok}
use Rattle.std.proofs.lemmas.Result.{err_from_is_err_and}
use Rattle.std.specs.Prelude.{codes}
use Rattle.protox_lex.specs.declared.token.Sign.TheVariants as s
use Rattle.protox_options.proofs.range.reserved.Goals as goal

pub returns-in_err-first : goal.returns-in_err-first
unfolding reserved
returns-in_err-first c =
    let p = err_from_is_err_and c.from_residual.result c.from_residual.ensures.1 in
    let e = c.in_err-first.field-0.0 in
    let h : Answers (Fails e) reserved (stream c.args.tokens.now) =
    refused (expect (ident (codes "reserved"))) _ e c.in_err-first.ensures.reads in
    rw (p.1, p.2) (record { reads = h.so; moves = tt })

pub returns-in_err-items : goal.returns-in_err-items
unfolding reserved
returns-in_err-items c =
    let r = c.from_residual-in_err-items in
    let p = err_from_is_err_and r.result r.ensures.1 in
    let e = c.in_err-items.field-0.0 in
    let h : Answers (Fails e) reserved (stream c.args.tokens.now) =
    behind (expect (ident (codes "reserved"))) _ c.in_ok-first.ensures.reads
    (refused reserved_items _ e c.in_err-items.ensures.reads) in
    rw (p.1, p.2) (record { reads = h.so; moves = tt })

pub returns-in_err-last : goal.returns-in_err-last
unfolding reserved
returns-in_err-last c =
    let r = c.from_residual-in_err-last in
    let p = err_from_is_err_and r.result r.ensures.1 in
    let e = c.in_err-last.field-0.0 in
    let h : Answers (Fails e) reserved (stream c.args.tokens.now) =
    behind (expect (ident (codes "reserved"))) _ c.in_ok-first.ensures.reads
    (behind reserved_items _ c.in_ok-items.ensures.reads
    (refused (expect (sign s.Semicolon)) _ e c.in_err-last.ensures.reads)) in
    rw (p.1, p.2) (record { reads = h.so; moves = tt })

pub returns : goal.returns
unfolding reserved
returns c =
    let x : Reserved = record {
      items = reserved_items_view c.in_ok-items.items;
      span = across c.in_ok-first.first c.in_ok-last.last;
    } in
    let h : Answers (λ o. o ≡ Ok (x, stream c.expect_sign.new.self)) reserved
    (stream c.args.tokens.now) =
    behind (expect (ident (codes "reserved"))) _ c.in_ok-first.ensures.reads
    (behind reserved_items _ c.in_ok-items.ensures.reads
    (behind (expect (sign s.Semicolon)) _ c.in_ok-last.ensures.reads (last _ refl))) in
    record { reads = rw c.across.ensures h.so; moves = Moves-reserved.at _ _ _ h.so }
