use Rattle.protox_lex.specs.Token.{sign}
use Rattle.protox_lex.specs.declared.literal.Int.{Int}
use Rattle.protox_options.proofs.Behind.{Answers, behind, refused, last}
use Rattle.protox_options.proofs.NameLaws.{Moves-int}
use Rattle.protox_options.specs.NameGrammar.{an_int, from_sign}
use Rattle.protox_tokens.specs.Parser.{eat, digits}
use Rattle.protox_tokens.specs.Reads.{Fails}
use Rattle.protox_tokens.specs.Stream.{stream}
use Rattle.std.proofs.Common.{◌≡◌, refl, Ok}
use Rattle.std.proofs.lemmas.Result.{err_from_is_err_and}
use Rattle.std.specs.Prelude.{is_some}
use Rattle.protox_lex.specs.declared.token.Sign.TheVariants as s
use Rattle.protox_options.proofs.names.int.Goals as goal

pub returns-in_err-value : goal.returns-in_err-value
unfolding an_int
returns-in_err-value c =
    let p = err_from_is_err_and c.from_residual.result c.from_residual.ensures.1 in
    let e = c.in_err-value.field-0.0 in
    let h : Answers (Fails e) an_int (stream c.args.tokens.now) =
    behind (eat (sign s.Minus)) _ c.eat_sign-minus.ensures.reads
    (refused digits _ e c.in_err-value.ensures.reads) in
    rw (p.1, p.2) (record { reads = h.so; moves = tt })

pub returns : goal.returns
unfolding an_int
returns c =
    let x : Int = record {
      negative = is_some c.eat_sign-minus.result;
      value = c.in_ok-value.value;
      span = from_sign c.eat_sign-minus.result c.in_ok-value.digits;
    } in
    let h : Answers (λ o. o ≡ Ok (x, stream c.digits.new.self)) an_int (stream c.args.tokens.now) =
    behind (eat (sign s.Minus)) _ c.eat_sign-minus.ensures.reads
    (behind digits _ c.in_ok-value.ensures.reads (last _ refl)) in
    record {
      reads = rw (c.is_some.ensures, c.from_sign.ensures) h.so;
      moves = Moves-int.at _ _ _ h.so;
    }
