use Rattle.protox_file.proofs.FileLaws.{Local-import_kind}
use Rattle.protox_file.specs.FileGrammar.{import_kind}
use Rattle.protox_lex.specs.Token.{ident}
use Rattle.protox_lex.specs.declared.span.Span.{Span}
use Rattle.protox_options.proofs.Behind.{Answers, behind, last}
use Rattle.protox_tokens.proofs.Local.{Keeps-local}
use Rattle.protox_tokens.specs.Parser.{eat}
use Rattle.protox_tokens.specs.Stream.{stream}
use Rattle.protox_tree.specs.declared.file.ImportKind.{ImportKind}
use Rattle.std.proofs.Common.{◌≡◌, refl, Ok, Some, None, Option}
use Rattle.std.specs.Prelude.{codes}
use Rattle.protox_tree.specs.declared.file.ImportKind.TheVariants as imports
use Rattle.protox_file.proofs.statements.import_kind.Goals as goal

pub returns-in-Some : goal.returns-in-Some
unfolding import_kind
returns-in-Some c =
    let x : Option (ImportKind × Span) = Some (imports.Weak, c.in-Some.span) in
    let h : Answers (λ o. o ≡ Ok (x, stream c.eat.new.self)) import_kind
    (stream c.args.tokens.now) =
    behind (eat (ident (codes "weak"))) _ c.in-Some.ensures.reads (last _ refl) in
    record { reads = h.so; moves = (Keeps-local Local-import_kind).at _ _ _ h.so }

pub returns-in-Some-eat : goal.returns-in-Some-eat
unfolding import_kind
returns-in-Some-eat c =
    let x : Option (ImportKind × Span) = Some (imports.Public, c.in-Some-eat.span) in
    let h : Answers (λ o. o ≡ Ok (x, stream c.eat-2.new.self)) import_kind
    (stream c.args.tokens.now) =
    behind (eat (ident (codes "weak"))) _ c.in_default.ensures.reads
    (behind (eat (ident (codes "public"))) _ c.in-Some-eat.ensures.reads (last _ refl)) in
    record { reads = h.so; moves = (Keeps-local Local-import_kind).at _ _ _ h.so }

pub returns : goal.returns
unfolding import_kind
returns c =
    let h : Answers (λ o. o ≡ Ok (None, stream c.eat-2.new.self)) import_kind
    (stream c.args.tokens.now) =
    behind (eat (ident (codes "weak"))) _ c.in_default.ensures.reads
    (behind (eat (ident (codes "public"))) _ c.in_default-eat.ensures.reads (last _ refl)) in
    record { reads = h.so; moves = (Keeps-local Local-import_kind).at _ _ _ h.so }
