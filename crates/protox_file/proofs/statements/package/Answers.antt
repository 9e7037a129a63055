use Rattle.protox_file.proofs.FileLaws.{Moves-package}
use Rattle.protox_file.specs.FileGrammar.{a_package}
use Rattle.protox_lex.specs.Token.{ident, sign}
use Rattle.protox_options.proofs.Behind.{Answers, behind, refused, last}
use Rattle.protox_options.specs.NameGrammar.{full_ident}
use Rattle.protox_tokens.specs.Parser.{expect}
use Rattle.protox_tokens.specs.Reads.{Fails}
use Rattle.protox_tokens.specs.Span.{across}
use Rattle.protox_tokens.specs.Stream.{stream}
use Rattle.protox_tree.specs.FileTree.{Package}
use Rattle.protox_tree.specs.View.{full_view}
use Rattle.std.proofs.Common.{◌≡◌, refl, Ok}
use Rattle.std.proofs.lemmas.Result.{err_from_is_err_and}
use Rattle.std.specs.Prelude.{codes}
use Rattle.protox_lex.specs.declared.token.Sign.TheVariants as s
use Rattle.protox_file.proofs.statements.package.Goals as goal

pub returns-in_err-first : goal.returns-in_err-first
unfolding a_package
returns-in_err-first c =
    let p = err_from_is_err_and c.from_residual.result c.from_residual.ensures.1 in
    let e = c.in_err-first.field-0.0 in
    let h : Answers (Fails e) a_package (stream c.args.tokens.now) =
    refused (expect (ident (codes "package"))) _ e c.in_err-first.ensures.reads in
    rw (p.1, p.2) (record { reads = h.so; moves = tt })

pub returns-in_err-name : goal.returns-in_err-name
unfolding a_package
returns-in_err-name c =
    let r = c.from_residual-in_err-name in
    let p = err_from_is_err_and r.result r.ensures.1 in
    let e = c.in_err-name.field-0.0 in
    let h : Answers (Fails e) a_package (stream c.args.tokens.now) =
    behind (expect (ident (codes "package"))) _ c.in_ok-first.ensures.reads
    (refused full_ident _ e c.in_err-name.ensures.reads) in
    rw (p.1, p.2) (record { reads = h.so; moves = tt })

pub returns-in_err-last : goal.returns-in_err-last
unfolding a_package
returns-in_err-last c =
    let r = c.from_residual-in_err-last in
    let p = err_from_is_err_and r.result r.ensures.1 in
    let e = c.in_err-last.field-0.0 in
    let h : Answers (Fails e) a_package (stream c.args.tokens.now) =
    behind (expect (ident (codes "package"))) _ c.in_ok-first.ensures.reads
    (behind full_ident _ c.in_ok-name.ensures.reads
    (refused (expect (sign s.Semicolon)) _ e c.in_err-last.ensures.reads)) in
    rw (p.1, p.2) (record { reads = h.so; moves = tt })

pub returns : goal.returns
unfolding a_package
returns c =
    let x : Package = record {
      name = full_view c.in_ok-name.name;
      span = across c.in_ok-first.first c.in_ok-last.last;
    } in
    let h : Answers (λ o. o ≡ Ok (x, stream c.expect_sign.new.self)) a_package
    (stream c.args.tokens.now) =
    behind (expect (ident (codes "package"))) _ c.in_ok-first.ensures.reads
    (behind full_ident _ c.in_ok-name.ensures.reads
    (behind (expect (sign s.Semicolon)) _ c.in_ok-last.ensures.reads (last _ refl))) in
    record { reads = rw c.across.ensures h.so; moves = Moves-package.at _ _ _ h.so }
