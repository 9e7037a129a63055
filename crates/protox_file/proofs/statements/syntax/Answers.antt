use Rattle.protox_file.proofs.FileLaws.{Local-syntax}
use Rattle.protox_file.specs.FileGrammar.{syntax_behind, syntax}
use Rattle.protox_lex.specs.Token.{ident}
use Rattle.protox_options.proofs.Behind.{Answers, behind, refused, last}
use Rattle.protox_tokens.proofs.Local.{Keeps-local}
use Rattle.protox_tokens.specs.Parser.{eat}
use Rattle.protox_tokens.specs.Reads.{Fails}
use Rattle.protox_tokens.specs.Refusal.{unknown_syntax}
use Rattle.protox_tokens.specs.Stream.{stream}
use Rattle.protox_tree.specs.FileView.{syntax_view}
use Rattle.std.proofs.Common.{◌≡◌, refl, Ok, Err, Some, None}
use Rattle.std.proofs.lemmas.Result.{err_from_is_err_and}
use Rattle.std.specs.Prelude.{codes}
use Rattle.protox_file.proofs.statements.syntax.Goals as goal

pub returns-in-Some : goal.returns-in-Some
unfolding syntax
returns-in-Some c =
    let h : Answers (λ o. o ≡ Err (unknown_syntax c.in-Some.span)) syntax
    (stream c.args.tokens.now) =
    behind (eat (ident (codes "edition"))) _ c.in-Some.ensures.reads (record { so = refl }) in
    record { reads = h.so; moves = tt }

pub returns-in_default-eat : goal.returns-in_default-eat
unfolding syntax
returns-in_default-eat c =
    let h : Answers (λ o. o ≡ Ok (None, stream c.eat-2.new.self)) syntax
    (stream c.args.tokens.now) =
    behind (eat (ident (codes "edition"))) _ c.in_default.ensures.reads
    (behind (eat (ident (codes "syntax"))) _ c.in_default-eat.ensures.reads (last _ refl)) in
    record { reads = h.so; moves = (Keeps-local Local-syntax).at _ _ _ h.so }

pub returns-in_err-statement : goal.returns-in_err-statement
unfolding syntax
returns-in_err-statement c =
    let p = err_from_is_err_and c.from_residual.result c.from_residual.ensures.1 in
    let e = c.in_err-statement.field-0.0 in
    let h : Answers (Fails e) syntax (stream c.args.tokens.now) =
    behind (eat (ident (codes "edition"))) _ c.in_default.ensures.reads
    (behind (eat (ident (codes "syntax"))) _ c.in-Some-eat.ensures.reads
    (refused (syntax_behind c.in-Some-eat.first) _ e c.in_err-statement.ensures.reads)) in
    rw (p.1, p.2) (record { reads = h.so; moves = tt })

pub returns : goal.returns
unfolding syntax
returns c =
    let x = Some (syntax_view c.in_ok-statement.statement) in
    let h : Answers (λ o. o ≡ Ok (x, stream c.syntax_behind.new.tokens)) syntax
    (stream c.args.tokens.now) =
    behind (eat (ident (codes "edition"))) _ c.in_default.ensures.reads
    (behind (eat (ident (codes "syntax"))) _ c.in-Some-eat.ensures.reads
    (behind (syntax_behind c.in-Some-eat.first) _ c.in_ok-statement.ensures.reads (last _ refl))) in
    record { reads = h.so; moves = (Keeps-local Local-syntax).at _ _ _ h.so }
