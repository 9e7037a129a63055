-- The rules of files look one token ahead, and each turn of their loop takes one.
use Rattle.protox_declarations.proofs.EnumLaws.{Local-enumeration, Moves-enumeration}
use Rattle.protox_declarations.proofs.ServiceLaws.{Local-service, Moves-service}
use Rattle.protox_file.specs.FileGrammar.{known, syntax_behind, syntax_if, unless_edition, syntax, public_if, weak_if, import_kind, an_import, a_package, file_item_unless, file_item, file_items, file}
use Rattle.protox_lex.specs.declared.span.Span.{Span}
use Rattle.protox_messages.proofs.MessageLaws.{Local-message, Moves-message, Local-extend, Moves-extend, Local-block}
use Rattle.protox_messages.specs.MessageGrammar.{block}
use Rattle.protox_options.proofs.NameLaws.{Local-full, Local-strings}
use Rattle.protox_options.proofs.OptionLaws.{Local-option, Moves-option}
use Rattle.protox_tokens.proofs.Local.{Local, IsOfHead, same_start, Local-bind, Local-pure, Local-choose, Local-when, Local-expect, Local-eat, Local-loop, Local-refused, of_head-not, of_head-sees, Keeps-local, Moves, Moves-first, Moves-expect, Moves-eat, Moves-choose, Moves-map, Moves-refused, Shortens-when}
use Rattle.protox_tokens.proofs.Loops.{Shortens}
use Rattle.protox_tokens.specs.Parser.{when}
use Rattle.protox_tokens.specs.Refusal.{a_file_item, unknown_syntax}
use Rattle.protox_tokens.specs.Stream.{Stream, source, is_over}
use Rattle.protox_tree.specs.declared.types.Syntax.{Syntax}
use Rattle.std.proofs.Common.{◌≡◌, [], ◌∷◌, true, not, Option, Some, None, Err, refl}

Local-unknown : {A : Type 0} (at : Span) → Local {A = A} (λ ts. Err (unknown_syntax at))
Local-unknown at = record { at = λ ts. (ts, tt, record { front = []; whole = refl; stable = λ s h. refl }) }

Local-known : (at : Span) (o : Option Syntax) → Local (known at o)
Local-known at (Some x) = Local-pure x
Local-known at None = Local-unknown at

Local-syntax_behind : (p : Span) → Local (syntax_behind p)
unfolding syntax_behind
Local-syntax_behind p = Local-bind (Local-expect _) (λ e. Local-bind Local-strings (λ v.
    Local-bind (Local-known _ _) (λ x. Local-bind (Local-expect _) (λ q. Local-pure _))))

pub Moves-syntax_behind : (p : Span) → Moves (syntax_behind p)
unfolding syntax_behind
Moves-syntax_behind p = Moves-first (Moves-expect _) (λ e. Keeps-local (Local-bind Local-strings (λ v.
    Local-bind (Local-known _ _) (λ x. Local-bind (Local-expect _) (λ q. Local-pure _)))))

Local-syntax_if : (o : Option Span) → Local (syntax_if o)
Local-syntax_if None = Local-pure _
Local-syntax_if (Some p) = Local-bind (Local-syntax_behind p) (λ x. Local-pure _)

Local-unless_edition : (o : Option Span) → Local (unless_edition o)
Local-unless_edition (Some at) = Local-unknown at
Local-unless_edition None = Local-bind (Local-eat _) Local-syntax_if

pub Local-syntax : Local syntax
unfolding syntax
Local-syntax = Local-bind (Local-eat _) Local-unless_edition

Local-public_if : (o : Option Span) → Local (public_if o)
Local-public_if (Some p) = Local-pure _
Local-public_if None = Local-pure _

Local-weak_if : (o : Option Span) → Local (weak_if o)
Local-weak_if (Some p) = Local-pure _
Local-weak_if None = Local-bind (Local-eat _) Local-public_if

pub Local-import_kind : Local import_kind
unfolding import_kind
Local-import_kind = Local-bind (Local-eat _) Local-weak_if

Local-import : Local an_import
unfolding an_import
Local-import = Local-bind (Local-expect _) (λ p. Local-bind Local-import_kind (λ k.
    Local-bind Local-strings (λ v. Local-bind (Local-expect _) (λ q. Local-pure _))))

pub Moves-import : Moves an_import
unfolding an_import
Moves-import = Moves-first (Moves-expect _) (λ p. Keeps-local (Local-bind Local-import_kind (λ k.
    Local-bind Local-strings (λ v. Local-bind (Local-expect _) (λ q. Local-pure _)))))

Local-package : Local a_package
unfolding a_package
Local-package =
    Local-bind (Local-expect _) (λ p. Local-bind Local-full (λ n. Local-bind (Local-expect _) (λ q. Local-pure _)))

pub Moves-package : Moves a_package
unfolding a_package
Moves-package = Moves-first (Moves-expect _) (λ p.
    Keeps-local (Local-bind Local-full (λ n. Local-bind (Local-expect _) (λ q. Local-pure _))))

Local-item_unless : (o : Option Span) → Local (file_item_unless o)
Local-item_unless (Some p) = Local-pure _
Local-item_unless None =
    Local-choose _ (of_head-sees _) _ _ (Local-bind Local-import (λ x. Local-pure _))
    (Local-choose _ (of_head-sees _) _ _ (Local-bind Local-package (λ x. Local-pure _))
    (Local-choose _ (of_head-sees _) _ _ (Local-bind (Local-message (block 31) (Local-block 31)) (λ x. Local-pure _))
    (Local-choose _ (of_head-sees _) _ _ (Local-bind Local-enumeration (λ x. Local-pure _))
    (Local-choose _ (of_head-sees _) _ _ (Local-bind Local-service (λ x. Local-pure _))
    (Local-choose _ (of_head-sees _) _ _ (Local-bind (Local-extend (block 31) (Local-block 31)) (λ x. Local-pure _))
    (Local-choose _ (of_head-sees _) _ _ (Local-bind Local-option (λ x. Local-pure _))
    (Local-refused source a_file_item)))))))

Local-item : Local file_item
unfolding file_item
Local-item = Local-bind (Local-eat _) Local-item_unless

pub Moves-item : Moves file_item
unfolding file_item
Moves-item = Moves-eat _ file_item_unless (λ p. Keeps-local (Local-pure _))
    (Moves-choose _ (Moves-map _ Moves-import)
    (Moves-choose _ (Moves-map _ Moves-package)
    (Moves-choose _ (Moves-map _ (Moves-message (block 31) (Local-block 31)))
    (Moves-choose _ (Moves-map _ Moves-enumeration)
    (Moves-choose _ (Moves-map _ Moves-service)
    (Moves-choose _ (Moves-map _ (Moves-extend (block 31) (Local-block 31)))
    (Moves-choose _ (Moves-map _ Moves-option) (Moves-refused source a_file_item))))))))

of_head-over : IsOfHead is_over
of_head-over = record { at = λ r s h. same_start is_over r s (λ x t u. refl) h }

pub file_turns : Shortens (when (λ ts. not (is_over ts)) file_item)
file_turns = Shortens-when _ Moves-item

Local-items : Local file_items
unfolding file_items
Local-items = Local-loop _ (Local-when _ (of_head-not of_head-over) Local-item) file_turns

pub Local-file : Local file
unfolding file
Local-file = Local-bind Local-syntax (λ x. Local-bind Local-items (λ is. Local-pure _))

pub none_left : (ts : Stream) → is_over ts ≡ true → ts ≡ []
none_left [] h = refl
none_left (t ∷ ts) h = absurd cc
