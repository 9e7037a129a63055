use Rattle.protox_fields.proofs.FieldLaws.{Moves-map_type}
use Rattle.protox_fields.specs.FieldGrammar.{ty, map_type}
use Rattle.protox_lex.specs.Token.{sign}
use Rattle.protox_options.proofs.Behind.{Answers, behind, refused, last}
use Rattle.protox_tokens.specs.Parser.{expect}
use Rattle.protox_tokens.specs.Reads.{Fails}
use Rattle.protox_tokens.specs.Span.{across}
use Rattle.protox_tokens.specs.Stream.{stream}
use Rattle.protox_tree.specs.Nest.{MapType}
use Rattle.protox_tree.specs.View.{ty_view}
use Rattle.std.proofs.Common.{◌≡◌, refl, Ok}
use Rattle.std.proofs.lemmas.Result.{err_from_is_err_and}
use Rattle.protox_lex.specs.declared.token.Sign.TheVariants as s
use Rattle.protox_fields.proofs.field.map.Goals as goal

pub returns-in_err-key : goal.returns-in_err-key
unfolding map_type
returns-in_err-key c =
    let p = err_from_is_err_and c.from_residual.result c.from_residual.ensures.1 in
    let e = c.in_err-key.field-0.0 in
    let h : Answers (Fails e) (map_type c.args.first) (stream c.args.tokens.now) =
    refused ty _ e c.in_err-key.ensures.reads in
    rw (p.1, p.2) (record { reads = h.so; moves = tt })

pub returns-in_err-expect_sign : goal.returns-in_err-expect_sign
unfolding map_type
returns-in_err-expect_sign c =
    let p = err_from_is_err_and c.from_residual-in_err-expect_sign.result c.from_residual-in_err-expect_sign.ensures.1 in
    let e = c.in_err-expect_sign.field-0.0 in
    let h : Answers (Fails e) (map_type c.args.first) (stream c.args.tokens.now) =
    behind ty _ c.in_ok-key.ensures.reads (refused (expect (sign s.Comma)) _ e c.in_err-expect_sign.ensures.reads) in
    rw (p.1, p.2) (record { reads = h.so; moves = tt })

pub returns-in_err-value : goal.returns-in_err-value
unfolding map_type
returns-in_err-value c =
    let p = err_from_is_err_and c.from_residual-in_err-value.result c.from_residual-in_err-value.ensures.1 in
    let e = c.in_err-value.field-0.0 in
    let h : Answers (Fails e) (map_type c.args.first) (stream c.args.tokens.now) =
    behind ty _ c.in_ok-key.ensures.reads (behind (expect (sign s.Comma)) _ c.in_ok-expect_sign.ensures.reads (refused ty _ e c.in_err-value.ensures.reads)) in
    rw (p.1, p.2) (record { reads = h.so; moves = tt })

pub returns-in_err-close : goal.returns-in_err-close
unfolding map_type
returns-in_err-close c =
    let p = err_from_is_err_and c.from_residual-in_err-close.result c.from_residual-in_err-close.ensures.1 in
    let e = c.in_err-close.field-0.0 in
    let h : Answers (Fails e) (map_type c.args.first) (stream c.args.tokens.now) =
    behind ty _ c.in_ok-key.ensures.reads (behind (expect (sign s.Comma)) _ c.in_ok-expect_sign.ensures.reads (behind ty _ c.in_ok-value.ensures.reads (refused (expect (sign s.RightAngleBracket)) _ e c.in_err-close.ensures.reads))) in
    rw (p.1, p.2) (record { reads = h.so; moves = tt })

pub returns : goal.returns
unfolding map_type
returns c =
    let x : MapType = record { key = ty_view c.in_ok-key.key; value = ty_view c.in_ok-value.value; span = across c.args.first c.in_ok-close.close } in
    let h : Answers (λ o. o ≡ Ok (x, stream c.expect_sign-2.new.self)) (map_type c.args.first) (stream c.args.tokens.now) =
    behind ty _ c.in_ok-key.ensures.reads (behind (expect (sign s.Comma)) _ c.in_ok-expect_sign.ensures.reads (behind ty _ c.in_ok-value.ensures.reads (behind (expect (sign s.RightAngleBracket)) _ c.in_ok-close.ensures.reads (last _ refl)))) in
    record { reads = rw c.across.ensures h.so; moves = (Moves-map_type c.args.first).at _ _ _ h.so }
