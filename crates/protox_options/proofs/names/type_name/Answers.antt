use Rattle.protox_lex.specs.Token.{sign}
use Rattle.protox_options.proofs.Behind.{Answers, behind, refused, last}
use Rattle.protox_options.proofs.NameLaws.{Moves-type_name}
use Rattle.protox_options.specs.NameGrammar.{full_ident, type_name}
use Rattle.protox_tokens.specs.Parser.{eat}
use Rattle.protox_tokens.specs.Reads.{Fails}
use Rattle.protox_tokens.specs.Stream.{stream}
use Rattle.protox_tree.specs.Tree.{TypeName}
use Rattle.protox_tree.specs.View.{full_view}
use Rattle.std.proofs.Common.{◌≡◌, refl, Ok}
use Rattle.std.proofs.lemmas.Result.{err_from_is_err_and}
use Rattle.protox_lex.specs.declared.token.Sign.TheVariants as s
use Rattle.protox_options.proofs.names.type_name.Goals as goal

pub returns-in_err-name : goal.returns-in_err-name
unfolding type_name
returns-in_err-name c =
    let p = err_from_is_err_and c.from_residual.result c.from_residual.ensures.1 in
    let e = c.in_err-name.field-0.0 in
    let h : Answers (Fails e) type_name (stream c.args.tokens.now) =
    behind (eat (sign s.Dot)) _ c.eat_sign-leading_dot.ensures.reads
    (refused full_ident _ e c.in_err-name.ensures.reads) in
    rw (p.1, p.2) (record { reads = h.so; moves = tt })

pub returns : goal.returns
unfolding type_name
returns c =
    let x : TypeName = record {
      leading_dot = c.eat_sign-leading_dot.result;
      parts = full_view c.in_ok-name.name;
    } in
    let h : Answers (λ o. o ≡ Ok (x, stream c.full_ident.new.tokens)) type_name
    (stream c.args.tokens.now) =
    behind (eat (sign s.Dot)) _ c.eat_sign-leading_dot.ensures.reads
    (behind full_ident _ c.in_ok-name.ensures.reads (last _ refl)) in
    record { reads = h.so; moves = Moves-type_name.at _ _ _ h.so }
