use Rattle.protox_file.proofs.FileLaws.{Moves-import}
use Rattle.protox_file.specs.FileGrammar.{import_kind, an_import}
use Rattle.protox_lex.specs.Token.{ident, sign}
use Rattle.protox_options.proofs.Behind.{Answers, behind, refused, last}
use Rattle.protox_options.specs.NameGrammar.{strings}
use Rattle.protox_tokens.specs.Parser.{expect}
use Rattle.protox_tokens.specs.Reads.{Fails}
use Rattle.protox_tokens.specs.Span.{across}
use Rattle.protox_tokens.specs.Stream.{stream}
use Rattle.protox_tree.specs.FileTree.{Import}
use Rattle.protox_tree.specs.View.{strings_view}
use Rattle.std.proofs.Common.{◌≡◌, refl, Ok}
use Rattle.std.proofs.lemmas.Result.{err_from_is_err_and}
use Rattle.std.specs.Prelude.{codes}
use Rattle.protox_lex.specs.declared.token.Sign.TheVariants as s
use Rattle.protox_file.proofs.statements.import.Goals as goal

pub returns-in_err-first : goal.returns-in_err-first
unfolding an_import
returns-in_err-first c =
    let p = err_from_is_err_and c.from_residual.result c.from_residual.ensures.1 in
    let e = c.in_err-first.field-0.0 in
    let h : Answers (Fails e) an_import (stream c.args.tokens.now) =
    refused (expect (ident (codes "import"))) _ e c.in_err-first.ensures.reads in
    rw (p.1, p.2) (record { reads = h.so; moves = tt })

pub returns-in_err-value : goal.returns-in_err-value
unfolding an_import
returns-in_err-value c =
    let r = c.from_residual-in_err-value in
    let p = err_from_is_err_and r.result r.ensures.1 in
    let e = c.in_err-value.field-0.0 in
    let h : Answers (Fails e) an_import (stream c.args.tokens.now) =
    behind (expect (ident (codes "import"))) _ c.in_ok-first.ensures.reads
    (behind import_kind _ c.import_kind-kind.ensures.reads
    (refused strings _ e c.in_err-value.ensures.reads)) in
    rw (p.1, p.2) (record { reads = h.so; moves = tt })

pub returns-in_err-last : goal.returns-in_err-last
unfolding an_import
returns-in_err-last c =
    let r = c.from_residual-in_err-last in
    let p = err_from_is_err_and r.result r.ensures.1 in
    let e = c.in_err-last.field-0.0 in
    let h : Answers (Fails e) an_import (stream c.args.tokens.now) =
    behind (expect (ident (codes "import"))) _ c.in_ok-first.ensures.reads
    (behind import_kind _ c.import_kind-kind.ensures.reads
    (behind strings _ c.in_ok-value.ensures.reads
    (refused (expect (sign s.Semicolon)) _ e c.in_err-last.ensures.reads))) in
    rw (p.1, p.2) (record { reads = h.so; moves = tt })

pub returns : goal.returns
unfolding an_import
returns c =
    let x : Import = record {
      kind = c.import_kind-kind.result;
      value = strings_view c.in_ok-value.value;
      span = across c.in_ok-first.first c.in_ok-last.last;
    } in
    let h : Answers (λ o. o ≡ Ok (x, stream c.expect_sign.new.self)) an_import
    (stream c.args.tokens.now) =
    behind (expect (ident (codes "import"))) _ c.in_ok-first.ensures.reads
    (behind import_kind _ c.import_kind-kind.ensures.reads
    (behind strings _ c.in_ok-value.ensures.reads
    (behind (expect (sign s.Semicolon)) _ c.in_ok-last.ensures.reads (last _ refl)))) in
    record { reads = rw c.across.ensures h.so; moves = Moves-import.at _ _ _ h.so }
