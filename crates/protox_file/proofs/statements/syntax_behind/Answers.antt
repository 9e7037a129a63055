use Rattle.protox_file.proofs.FileLaws.{Moves-syntax_behind}
use Rattle.protox_file.proofs.Known.{named, known_is, unknown_is}
use Rattle.protox_file.specs.FileGrammar.{syntax_behind}
use Rattle.protox_lex.specs.Token.{sign}
use Rattle.protox_options.proofs.Behind.{Answers, behind, refused, last}
use Rattle.protox_options.specs.NameGrammar.{strings}
use Rattle.protox_tokens.specs.Parser.{expect}
use Rattle.protox_tokens.specs.Reads.{Fails}
use Rattle.protox_tokens.specs.Span.{across}
use Rattle.protox_tokens.specs.Stream.{stream}
use Rattle.protox_tree.specs.FileTree.{SyntaxStatement}
use Rattle.protox_tree.specs.View.{strings_view}
use Rattle.std.proofs.Common.{◌≡◌, refl, Ok}
use Rattle.std.proofs.lemmas.Result.{err_from_is_err_and}
use Rattle.protox_lex.specs.declared.token.Sign.TheVariants as s
use Rattle.protox_file.proofs.statements.syntax_behind.Goals as goal

pub returns-in_err-expect_sign : goal.returns-in_err-expect_sign
unfolding syntax_behind
returns-in_err-expect_sign c =
    let p = err_from_is_err_and c.from_residual.result c.from_residual.ensures.1 in
    let e = c.in_err-expect_sign.field-0.0 in
    let h : Answers (Fails e) (syntax_behind c.args.first) (stream c.args.tokens.now) =
    refused (expect (sign s.Equals)) _ e c.in_err-expect_sign.ensures.reads in
    rw (p.1, p.2) (record { reads = h.so; moves = tt })

pub returns-in_err-value : goal.returns-in_err-value
unfolding syntax_behind
returns-in_err-value c =
    let r = c.from_residual-in_err-value in
    let p = err_from_is_err_and r.result r.ensures.1 in
    let e = c.in_err-value.field-0.0 in
    let h : Answers (Fails e) (syntax_behind c.args.first) (stream c.args.tokens.now) =
    behind (expect (sign s.Equals)) _ c.in_ok-expect_sign.ensures.reads
    (refused strings _ e c.in_err-value.ensures.reads) in
    rw (p.1, p.2) (record { reads = h.so; moves = tt })

pub returns-in_err-syntax : goal.returns-in_err-syntax
unfolding syntax_behind
returns-in_err-syntax c =
    let r = c.from_residual-in_err-syntax in
    let p = err_from_is_err_and r.result r.ensures.1 in
    let e = c.in_err-syntax.field-0.0 in
    let v = strings_view c.in_ok-value.value in
    let h : Answers (Fails e) (syntax_behind c.args.first) (stream c.args.tokens.now) =
    behind (expect (sign s.Equals)) _ c.in_ok-expect_sign.ensures.reads
    (behind strings _ c.in_ok-value.ensures.reads (refused
    (named v) _ e (unknown_is v e (stream c.strings.new.tokens) c.in_err-syntax.ensures))) in
    rw (p.1, p.2) (record { reads = h.so; moves = tt })

pub returns-in_err-last : goal.returns-in_err-last
unfolding syntax_behind
returns-in_err-last c =
    let r = c.from_residual-in_err-last in
    let p = err_from_is_err_and r.result r.ensures.1 in
    let e = c.in_err-last.field-0.0 in
    let v = strings_view c.in_ok-value.value in
    let h : Answers (Fails e) (syntax_behind c.args.first) (stream c.args.tokens.now) =
    behind (expect (sign s.Equals)) _ c.in_ok-expect_sign.ensures.reads
    (behind strings _ c.in_ok-value.ensures.reads (behind
    (named v) _ (known_is v c.in_ok-syntax.syntax
    (stream c.strings.new.tokens) c.in_ok-syntax.ensures)
    (refused (expect (sign s.Semicolon)) _ e c.in_err-last.ensures.reads))) in
    rw (p.1, p.2) (record { reads = h.so; moves = tt })

pub returns : goal.returns
unfolding syntax_behind
returns c =
    let v = strings_view c.in_ok-value.value in
    let x : SyntaxStatement = record {
      syntax = c.in_ok-syntax.syntax;
      value = v;
      span = across c.args.first c.in_ok-last.last;
    } in
    let h : Answers (λ o. o ≡ Ok (x, stream c.expect_sign-2.new.self)) (syntax_behind c.args.first)
    (stream c.args.tokens.now) =
    behind (expect (sign s.Equals)) _ c.in_ok-expect_sign.ensures.reads
    (behind strings _ c.in_ok-value.ensures.reads (behind
    (named v) _ (known_is v c.in_ok-syntax.syntax
    (stream c.strings.new.tokens) c.in_ok-syntax.ensures)
    (behind (expect (sign s.Semicolon)) _ c.in_ok-last.ensures.reads (last _ refl)))) in
    record {
      reads = rw c.across.ensures h.so;
      moves = (Moves-syntax_behind c.args.first).at _ _ _ h.so;
    }
