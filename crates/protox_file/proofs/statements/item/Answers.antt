use Rattle.protox_declarations.specs.EnumGrammar.{enumeration}
use Rattle.protox_declarations.specs.ServiceGrammar.{service}
use Rattle.protox_file.proofs.FileLaws.{Moves-item}
use Rattle.protox_file.specs.FileGrammar.{an_import, a_package, file_item}
use Rattle.protox_lex.specs.Token.{ident, sign}
use Rattle.protox_messages.specs.MessageGrammar.{block, message_with, extend_with}
use Rattle.protox_options.proofs.Behind.{Answers, behind, refused, told, last}
use Rattle.protox_options.proofs.Choices.{chosen, passed}
use Rattle.protox_options.specs.OptionGrammar.{option}
use Rattle.protox_tokens.specs.Parser.{eat, sees}
use Rattle.protox_tokens.specs.Reads.{Fails}
use Rattle.protox_tokens.specs.Refusal.{a_file_item, refusal}
use Rattle.protox_tokens.specs.Stream.{stream, source}
use Rattle.protox_tree.specs.FileTree.{file_import, file_package, file_option, file_message, file_enum, file_service, file_extend, file_empty}
use Rattle.protox_tree.specs.FileView.{import_view, package_view}
use Rattle.protox_tree.specs.NestView.{message_view, extend_view}
use Rattle.protox_tree.specs.View.{option_view, enum_view, service_view}
use Rattle.std.proofs.Common.{◌≡◌, ◌∙◌, sym, refl, Ok, Err}
use Rattle.std.proofs.lemmas.Result.{err_from_is_err_and}
use Rattle.std.specs.Prelude.{codes}
use Rattle.protox_lex.specs.declared.token.Sign.TheVariants as s
use Rattle.protox_file.proofs.statements.item.Goals as goal

pub returns-in-Some : goal.returns-in-Some
unfolding file_item
returns-in-Some c =
    let x = file_empty c.in-Some.span in
    let h : Answers (λ o. o ≡ Ok (x, stream c.eat_sign.new.self)) file_item
    (stream c.args.tokens.now) =
    behind (eat (sign s.Semicolon)) _ c.in-Some.ensures.reads (last _ refl) in
    record { reads = h.so; moves = Moves-item.at _ _ _ h.so }

pub returns-in_err-import : goal.returns-in_err-import
unfolding file_item
returns-in_err-import c =
    let p = err_from_is_err_and c.from_residual.result c.from_residual.ensures.1 in
    let e = c.in_err-import.field-0.0 in
    let h : Answers (Fails e) file_item (stream c.args.tokens.now) =
    behind (eat (sign s.Semicolon)) _ c.in_default.ensures.reads
    (chosen (sees (ident (codes "import"))) _ _ (sym c.sees.ensures ∙ c.if-sees.true)
    (refused an_import _ e c.in_err-import.ensures.reads)) in
    rw (p.1, p.2) (record { reads = h.so; moves = tt })

pub returns-then-sees : goal.returns-then-sees
unfolding file_item
returns-then-sees c =
    let x = file_import (import_view c.in_ok-import.import) in
    let h : Answers (λ o. o ≡ Ok (x, stream c.import.new.tokens)) file_item
    (stream c.args.tokens.now) =
    behind (eat (sign s.Semicolon)) _ c.in_default.ensures.reads
    (chosen (sees (ident (codes "import"))) _ _ (sym c.sees.ensures ∙ c.if-sees.true)
    (behind an_import _ c.in_ok-import.ensures.reads (last _ refl))) in
    record { reads = h.so; moves = Moves-item.at _ _ _ h.so }

pub returns-in_err-package : goal.returns-in_err-package
unfolding file_item
returns-in_err-package c =
    let r = c.from_residual-in_err-package in
    let p = err_from_is_err_and r.result r.ensures.1 in
    let e = c.in_err-package.field-0.0 in
    let h : Answers (Fails e) file_item (stream c.args.tokens.now) =
    behind (eat (sign s.Semicolon)) _ c.in_default.ensures.reads
    (passed (sees (ident (codes "import"))) _ _ (sym c.sees.ensures ∙ c.if-sees.false)
    (chosen (sees (ident (codes "package"))) _ _ (sym c.sees-2.ensures ∙ c.if-sees-2.true)
    (refused a_package _ e c.in_err-package.ensures.reads))) in
    rw (p.1, p.2) (record { reads = h.so; moves = tt })

pub returns-then-sees-2 : goal.returns-then-sees-2
unfolding file_item
returns-then-sees-2 c =
    let x = file_package (package_view c.in_ok-package.package) in
    let h : Answers (λ o. o ≡ Ok (x, stream c.package.new.tokens)) file_item
    (stream c.args.tokens.now) =
    behind (eat (sign s.Semicolon)) _ c.in_default.ensures.reads
    (passed (sees (ident (codes "import"))) _ _ (sym c.sees.ensures ∙ c.if-sees.false)
    (chosen (sees (ident (codes "package"))) _ _ (sym c.sees-2.ensures ∙ c.if-sees-2.true)
    (behind a_package _ c.in_ok-package.ensures.reads (last _ refl)))) in
    record { reads = h.so; moves = Moves-item.at _ _ _ h.so }

pub returns-in_err-message : goal.returns-in_err-message
unfolding file_item
returns-in_err-message c =
    let r = c.from_residual-in_err-message in
    let p = err_from_is_err_and r.result r.ensures.1 in
    let e = c.in_err-message.field-0.0 in
    let h : Answers (Fails e) file_item (stream c.args.tokens.now) =
    behind (eat (sign s.Semicolon)) _ c.in_default.ensures.reads
    (passed (sees (ident (codes "import"))) _ _ (sym c.sees.ensures ∙ c.if-sees.false)
    (passed (sees (ident (codes "package"))) _ _ (sym c.sees-2.ensures ∙ c.if-sees-2.false)
    (chosen (sees (ident (codes "message"))) _ _ (sym c.sees-3.ensures ∙ c.if-sees-3.true)
    (refused (message_with (block 31)) _ e c.in_err-message.ensures.reads)))) in
    rw (p.1, p.2) (record { reads = h.so; moves = tt })

pub returns-then-sees-3 : goal.returns-then-sees-3
unfolding file_item
returns-then-sees-3 c =
    let x = file_message (message_view c.in_ok-message.message) in
    let h : Answers (λ o. o ≡ Ok (x, stream c.message.new.tokens)) file_item
    (stream c.args.tokens.now) =
    behind (eat (sign s.Semicolon)) _ c.in_default.ensures.reads
    (passed (sees (ident (codes "import"))) _ _ (sym c.sees.ensures ∙ c.if-sees.false)
    (passed (sees (ident (codes "package"))) _ _ (sym c.sees-2.ensures ∙ c.if-sees-2.false)
    (chosen (sees (ident (codes "message"))) _ _ (sym c.sees-3.ensures ∙ c.if-sees-3.true)
    (behind (message_with (block 31)) _ c.in_ok-message.ensures.reads (last _ refl))))) in
    record { reads = h.so; moves = Moves-item.at _ _ _ h.so }

pub returns-in_err-enumeration : goal.returns-in_err-enumeration
unfolding file_item
returns-in_err-enumeration c =
    let r = c.from_residual-in_err-enumeration in
    let p = err_from_is_err_and r.result r.ensures.1 in
    let e = c.in_err-enumeration.field-0.0 in
    let h : Answers (Fails e) file_item (stream c.args.tokens.now) =
    behind (eat (sign s.Semicolon)) _ c.in_default.ensures.reads
    (passed (sees (ident (codes "import"))) _ _ (sym c.sees.ensures ∙ c.if-sees.false)
    (passed (sees (ident (codes "package"))) _ _ (sym c.sees-2.ensures ∙ c.if-sees-2.false)
    (passed (sees (ident (codes "message"))) _ _ (sym c.sees-3.ensures ∙ c.if-sees-3.false)
    (chosen (sees (ident (codes "enum"))) _ _ (sym c.sees-4.ensures ∙ c.if-sees-4.true)
    (refused enumeration _ e c.in_err-enumeration.ensures.reads))))) in
    rw (p.1, p.2) (record { reads = h.so; moves = tt })

pub returns-then-sees-4 : goal.returns-then-sees-4
unfolding file_item
returns-then-sees-4 c =
    let x = file_enum (enum_view c.in_ok-enumeration.enumeration) in
    let h : Answers (λ o. o ≡ Ok (x, stream c.enumeration.new.tokens)) file_item
    (stream c.args.tokens.now) =
    behind (eat (sign s.Semicolon)) _ c.in_default.ensures.reads
    (passed (sees (ident (codes "import"))) _ _ (sym c.sees.ensures ∙ c.if-sees.false)
    (passed (sees (ident (codes "package"))) _ _ (sym c.sees-2.ensures ∙ c.if-sees-2.false)
    (passed (sees (ident (codes "message"))) _ _ (sym c.sees-3.ensures ∙ c.if-sees-3.false)
    (chosen (sees (ident (codes "enum"))) _ _ (sym c.sees-4.ensures ∙ c.if-sees-4.true)
    (behind enumeration _ c.in_ok-enumeration.ensures.reads (last _ refl)))))) in
    record { reads = h.so; moves = Moves-item.at _ _ _ h.so }

pub returns-in_err-service : goal.returns-in_err-service
unfolding file_item
returns-in_err-service c =
    let r = c.from_residual-in_err-service in
    let p = err_from_is_err_and r.result r.ensures.1 in
    let e = c.in_err-service.field-0.0 in
    let h : Answers (Fails e) file_item (stream c.args.tokens.now) =
    behind (eat (sign s.Semicolon)) _ c.in_default.ensures.reads
    (passed (sees (ident (codes "import"))) _ _ (sym c.sees.ensures ∙ c.if-sees.false)
    (passed (sees (ident (codes "package"))) _ _ (sym c.sees-2.ensures ∙ c.if-sees-2.false)
    (passed (sees (ident (codes "message"))) _ _ (sym c.sees-3.ensures ∙ c.if-sees-3.false)
    (passed (sees (ident (codes "enum"))) _ _ (sym c.sees-4.ensures ∙ c.if-sees-4.false)
    (chosen (sees (ident (codes "service"))) _ _ (sym c.sees-5.ensures ∙ c.if-sees-5.true)
    (refused service _ e c.in_err-service.ensures.reads)))))) in
    rw (p.1, p.2) (record { reads = h.so; moves = tt })

pub returns-then-sees-5 : goal.returns-then-sees-5
unfolding file_item
returns-then-sees-5 c =
    let x = file_service (service_view c.in_ok-service.service) in
    let h : Answers (λ o. o ≡ Ok (x, stream c.service.new.tokens)) file_item
    (stream c.args.tokens.now) =
    behind (eat (sign s.Semicolon)) _ c.in_default.ensures.reads
    (passed (sees (ident (codes "import"))) _ _ (sym c.sees.ensures ∙ c.if-sees.false)
    (passed (sees (ident (codes "package"))) _ _ (sym c.sees-2.ensures ∙ c.if-sees-2.false)
    (passed (sees (ident (codes "message"))) _ _ (sym c.sees-3.ensures ∙ c.if-sees-3.false)
    (passed (sees (ident (codes "enum"))) _ _ (sym c.sees-4.ensures ∙ c.if-sees-4.false)
    (chosen (sees (ident (codes "service"))) _ _ (sym c.sees-5.ensures ∙ c.if-sees-5.true)
    (behind service _ c.in_ok-service.ensures.reads (last _ refl))))))) in
    record { reads = h.so; moves = Moves-item.at _ _ _ h.so }

pub returns-in_err-extend : goal.returns-in_err-extend
unfolding file_item
returns-in_err-extend c =
    let r = c.from_residual-in_err-extend in
    let p = err_from_is_err_and r.result r.ensures.1 in
    let e = c.in_err-extend.field-0.0 in
    let h : Answers (Fails e) file_item (stream c.args.tokens.now) =
    behind (eat (sign s.Semicolon)) _ c.in_default.ensures.reads
    (passed (sees (ident (codes "import"))) _ _ (sym c.sees.ensures ∙ c.if-sees.false)
    (passed (sees (ident (codes "package"))) _ _ (sym c.sees-2.ensures ∙ c.if-sees-2.false)
    (passed (sees (ident (codes "message"))) _ _ (sym c.sees-3.ensures ∙ c.if-sees-3.false)
    (passed (sees (ident (codes "enum"))) _ _ (sym c.sees-4.ensures ∙ c.if-sees-4.false)
    (passed (sees (ident (codes "service"))) _ _ (sym c.sees-5.ensures ∙ c.if-sees-5.false)
    (chosen (sees (ident (codes "extend"))) _ _ (sym c.sees-6.ensures ∙ c.if-sees-6.true)
    (refused (extend_with (block 31)) _ e c.in_err-extend.ensures.reads))))))) in
    rw (p.1, p.2) (record { reads = h.so; moves = tt })

pub returns-then-sees-6 : goal.returns-then-sees-6
unfolding file_item
returns-then-sees-6 c =
    let x = file_extend (extend_view c.in_ok-extend.extend) in
    let h : Answers (λ o. o ≡ Ok (x, stream c.extend.new.tokens)) file_item
    (stream c.args.tokens.now) =
    behind (eat (sign s.Semicolon)) _ c.in_default.ensures.reads
    (passed (sees (ident (codes "import"))) _ _ (sym c.sees.ensures ∙ c.if-sees.false)
    (passed (sees (ident (codes "package"))) _ _ (sym c.sees-2.ensures ∙ c.if-sees-2.false)
    (passed (sees (ident (codes "message"))) _ _ (sym c.sees-3.ensures ∙ c.if-sees-3.false)
    (passed (sees (ident (codes "enum"))) _ _ (sym c.sees-4.ensures ∙ c.if-sees-4.false)
    (passed (sees (ident (codes "service"))) _ _ (sym c.sees-5.ensures ∙ c.if-sees-5.false)
    (chosen (sees (ident (codes "extend"))) _ _ (sym c.sees-6.ensures ∙ c.if-sees-6.true)
    (behind (extend_with (block 31)) _ c.in_ok-extend.ensures.reads (last _ refl)))))))) in
    record { reads = h.so; moves = Moves-item.at _ _ _ h.so }

pub returns-in_err-option : goal.returns-in_err-option
unfolding file_item
returns-in_err-option c =
    let r = c.from_residual-in_err-option in
    let p = err_from_is_err_and r.result r.ensures.1 in
    let e = c.in_err-option.field-0.0 in
    let h : Answers (Fails e) file_item (stream c.args.tokens.now) =
    behind (eat (sign s.Semicolon)) _ c.in_default.ensures.reads
    (passed (sees (ident (codes "import"))) _ _ (sym c.sees.ensures ∙ c.if-sees.false)
    (passed (sees (ident (codes "package"))) _ _ (sym c.sees-2.ensures ∙ c.if-sees-2.false)
    (passed (sees (ident (codes "message"))) _ _ (sym c.sees-3.ensures ∙ c.if-sees-3.false)
    (passed (sees (ident (codes "enum"))) _ _ (sym c.sees-4.ensures ∙ c.if-sees-4.false)
    (passed (sees (ident (codes "service"))) _ _ (sym c.sees-5.ensures ∙ c.if-sees-5.false)
    (passed (sees (ident (codes "extend"))) _ _ (sym c.sees-6.ensures ∙ c.if-sees-6.false)
    (chosen (sees (ident (codes "option"))) _ _ (sym c.sees-7.ensures ∙ c.if-sees-7.true)
    (refused option _ e c.in_err-option.ensures.reads)))))))) in
    rw (p.1, p.2) (record { reads = h.so; moves = tt })

pub returns-then-sees-7 : goal.returns-then-sees-7
unfolding file_item
returns-then-sees-7 c =
    let x = file_option (option_view c.in_ok-option.option) in
    let h : Answers (λ o. o ≡ Ok (x, stream c.option.new.tokens)) file_item
    (stream c.args.tokens.now) =
    behind (eat (sign s.Semicolon)) _ c.in_default.ensures.reads
    (passed (sees (ident (codes "import"))) _ _ (sym c.sees.ensures ∙ c.if-sees.false)
    (passed (sees (ident (codes "package"))) _ _ (sym c.sees-2.ensures ∙ c.if-sees-2.false)
    (passed (sees (ident (codes "message"))) _ _ (sym c.sees-3.ensures ∙ c.if-sees-3.false)
    (passed (sees (ident (codes "enum"))) _ _ (sym c.sees-4.ensures ∙ c.if-sees-4.false)
    (passed (sees (ident (codes "service"))) _ _ (sym c.sees-5.ensures ∙ c.if-sees-5.false)
    (passed (sees (ident (codes "extend"))) _ _ (sym c.sees-6.ensures ∙ c.if-sees-6.false)
    (chosen (sees (ident (codes "option"))) _ _ (sym c.sees-7.ensures ∙ c.if-sees-7.true)
    (behind option _ c.in_ok-option.ensures.reads (last _ refl))))))))) in
    record { reads = h.so; moves = Moves-item.at _ _ _ h.so }

pub returns : goal.returns
unfolding file_item
returns c =
    let f = refusal source a_file_item (stream c.eat_sign.new.self) in
    let h : Answers (λ o. o ≡ Err f) file_item (stream c.args.tokens.now) =
    behind (eat (sign s.Semicolon)) _ c.in_default.ensures.reads
    (passed (sees (ident (codes "import"))) _ _ (sym c.sees.ensures ∙ c.if-sees.false)
    (passed (sees (ident (codes "package"))) _ _ (sym c.sees-2.ensures ∙ c.if-sees-2.false)
    (passed (sees (ident (codes "message"))) _ _ (sym c.sees-3.ensures ∙ c.if-sees-3.false)
    (passed (sees (ident (codes "enum"))) _ _ (sym c.sees-4.ensures ∙ c.if-sees-4.false)
    (passed (sees (ident (codes "service"))) _ _ (sym c.sees-5.ensures ∙ c.if-sees-5.false)
    (passed (sees (ident (codes "extend"))) _ _ (sym c.sees-6.ensures ∙ c.if-sees-6.false)
    (passed (sees (ident (codes "option"))) _ _ (sym c.sees-7.ensures ∙ c.if-sees-7.false)
    (record { so = refl })))))))) in
    record { reads = told f c.refuse.result c.refuse.ensures h.so; moves = tt }
