use Rattle.protox_options.proofs.Behind.{Answers, behind, refused, last}
use Rattle.protox_options.proofs.RangeLaws.{Moves-range}
use Rattle.protox_options.specs.NameGrammar.{an_int}
use Rattle.protox_options.specs.RangeGrammar.{range_end, range}
use Rattle.protox_tokens.specs.Reads.{Fails}
use Rattle.protox_tokens.specs.Stream.{stream}
use Rattle.protox_tree.specs.declared.range.ReservedRange.{ReservedRange}
use Rattle.std.proofs.Common.{◌≡◌, refl, Ok}
use Rattle.std.proofs.lemmas.Result.{err_from_is_err_and}
use Rattle.protox_options.proofs.range.range.Goals as goal

pub returns-in_err-start : goal.returns-in_err-start
unfolding range
returns-in_err-start c =
    let p = err_from_is_err_and c.from_residual.result c.from_residual.ensures.1 in
    let e = c.in_err-start.field-0.0 in
    let h : Answers (Fails e) range (stream c.args.tokens.now) =
    refused an_int _ e c.in_err-start.ensures.reads in
    rw (p.1, p.2) (record { reads = h.so; moves = tt })

pub returns-in_err-end : goal.returns-in_err-end
unfolding range
returns-in_err-end c =
    let r = c.from_residual-in_err-end in
    let p = err_from_is_err_and r.result r.ensures.1 in
    let e = c.in_err-end.field-0.0 in
    let h : Answers (Fails e) range (stream c.args.tokens.now) =
    behind an_int _ c.in_ok-start.ensures.reads
    (refused range_end _ e c.in_err-end.ensures.reads) in
    rw (p.1, p.2) (record { reads = h.so; moves = tt })

pub returns : goal.returns
unfolding range
returns c =
    let x : ReservedRange = record { start = c.in_ok-start.start; end = c.in_ok-end.end } in
    let h : Answers (λ o. o ≡ Ok (x, stream c.end.new.tokens)) range (stream c.args.tokens.now) =
    behind an_int _ c.in_ok-start.ensures.reads (behind range_end _ c.in_ok-end.ensures.reads
    (last _ refl)) in
    record { reads = h.so; moves = Moves-range.at _ _ _ h.so }
