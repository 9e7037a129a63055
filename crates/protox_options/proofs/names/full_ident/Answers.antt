use Rattle.protox_options.proofs.Behind.{Answers, behind, refused, moved}
use Rattle.protox_options.proofs.NameLaws.{Moves-full}
use Rattle.protox_options.specs.NameGrammar.{full_ident}
use Rattle.protox_tokens.specs.Parser.{word}
use Rattle.protox_tokens.specs.Reads.{Fails, Reads}
use Rattle.protox_tokens.specs.Stream.{stream}
use Rattle.protox_tree.specs.View.{full_view}
use Rattle.std.proofs.lemmas.Result.{err_from_is_err_and}
use Rattle.protox_options.proofs.names.full_ident.Goals as goal

pub returns-in_err-first : goal.returns-in_err-first
unfolding full_ident
returns-in_err-first c =
    let p = err_from_is_err_and c.from_residual.result c.from_residual.ensures.1 in
    let e = c.in_err-first.field-0.0 in
    let h : Answers (Fails e) full_ident (stream c.args.tokens.now) =
    refused word _ e c.in_err-first.ensures.reads in
    rw (p.1, p.2) (record { reads = h.so; moves = tt })

pub returns : goal.returns
unfolding full_ident
returns c =
    let h : Answers
    (λ o. Reads full_view o c.parts_after.result c.parts_after.new.tokens) full_ident
    (stream c.args.tokens.now) =
    behind word _ c.in_ok-first.ensures.reads (record { so = c.parts_after.ensures.reads }) in
    record {
      reads = h.so;
      moves = moved full_view Moves-full
          (stream c.args.tokens.now) c.parts_after.result c.parts_after.new.tokens h.so;
    }
