use Rattle.protox_lex.specs.Token.{ident}
use Rattle.protox_options.proofs.Behind.{Answers, behind, refused, last}
use Rattle.protox_options.proofs.RangeLaws.{Local-end}
use Rattle.protox_options.specs.NameGrammar.{an_int}
use Rattle.protox_options.specs.RangeGrammar.{range_end}
use Rattle.protox_tokens.proofs.Local.{Keeps-local}
use Rattle.protox_tokens.specs.Parser.{eat}
use Rattle.protox_tokens.specs.Reads.{Fails}
use Rattle.protox_tokens.specs.Stream.{stream}
use Rattle.std.proofs.Common.{◌≡◌, refl, Ok}
use Rattle.std.proofs.lemmas.Result.{err_from_is_err_and}
use Rattle.std.specs.Prelude.{codes}
use Rattle.protox_tree.specs.declared.range.RangeEnd.TheVariants as ends
use Rattle.protox_options.proofs.range.end.Goals as goal

pub returns-in_default : goal.returns-in_default
unfolding range_end
returns-in_default c =
    let h : Answers (λ o. o ≡ Ok (ends.None, stream c.eat.new.self)) range_end
    (stream c.args.tokens.now) =
    behind (eat (ident (codes "to"))) _ c.in_default.ensures.reads (last _ refl) in
    record { reads = h.so; moves = (Keeps-local Local-end).at _ _ _ h.so }

pub returns-in-Some-eat : goal.returns-in-Some-eat
unfolding range_end
returns-in-Some-eat c =
    let x = ends.Max c.in-Some-eat.span in
    let h : Answers (λ o. o ≡ Ok (x, stream c.eat-2.new.self)) range_end
    (stream c.args.tokens.now) =
    behind (eat (ident (codes "to"))) _ c.in-Some.ensures.reads
    (behind (eat (ident (codes "max"))) _ c.in-Some-eat.ensures.reads (last _ refl)) in
    record { reads = h.so; moves = (Keeps-local Local-end).at _ _ _ h.so }

pub returns-in_err-int : goal.returns-in_err-int
unfolding range_end
returns-in_err-int c =
    let p = err_from_is_err_and c.from_residual.result c.from_residual.ensures.1 in
    let e = c.in_err-int.field-0.0 in
    let h : Answers (Fails e) range_end (stream c.args.tokens.now) =
    behind (eat (ident (codes "to"))) _ c.in-Some.ensures.reads
    (behind (eat (ident (codes "max"))) _ c.in_default-eat.ensures.reads
    (refused an_int _ e c.in_err-int.ensures.reads)) in
    rw (p.1, p.2) (record { reads = h.so; moves = tt })

pub returns : goal.returns
unfolding range_end
returns c =
    let x = ends.Int c.in_ok-int.int in
    let h : Answers (λ o. o ≡ Ok (x, stream c.int.new.tokens)) range_end
    (stream c.args.tokens.now) =
    behind (eat (ident (codes "to"))) _ c.in-Some.ensures.reads
    (behind (eat (ident (codes "max"))) _ c.in_default-eat.ensures.reads
    (behind an_int _ c.in_ok-int.ensures.reads (last _ refl))) in
    record { reads = h.so; moves = (Keeps-local Local-end).at _ _ _ h.so }
