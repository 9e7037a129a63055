-- Files, as they are read, have identifiers for names.
use Rattle.std.proofs.Common.{[], Option, Some, None}
use Rattle.protox_file.specs.FileGrammar.{a_package, an_import, file, file_item, file_item_unless, file_items, import_kind, known, language, public_if, syntax, syntax_behind, syntax_if, unless_edition, weak_if}
use Rattle.protox_file.specs.Sources.{Spells}
use Rattle.protox_lex.specs.Class.{Text}
use Rattle.protox_lex.specs.declared.span.Span.{Span}
use Rattle.protox_messages.specs.MessageGrammar.{block}
use Rattle.protox_options.proofs.NameLaws.{Local-strings}
use Rattle.protox_options.proofs.OptionLaws.{Local-option}
use Rattle.protox_tokens.proofs.Local.{Local-eat, Local-expect}
use Rattle.protox_tokens.specs.Marks.{Each, IsAny, IsSome_of}
use Rattle.protox_tokens.specs.Refusal.{a_file_item, refusal, unknown_syntax}
use Rattle.protox_tokens.specs.Stream.{source}
use Rattle.protox_tree.specs.FileTree.{File}
use Rattle.protox_tree.specs.Tree.{joined, words_span}
use Rattle.protox_tree.specs.declared.types.Syntax.{Syntax}
use Rattle.source_laws.proofs.Giving.{Gives, gives-after, gives-any, gives-bind, gives-choose, gives-loop, gives-map, gives-none, gives-pure, gives-when}
use Rattle.source_laws.proofs.MessageRules.{gives-block, gives-extend, gives-message}
use Rattle.source_laws.proofs.NameRules.{gives-enum, gives-full}
use Rattle.source_laws.proofs.ServiceRules.{gives-service}
use Rattle.source_laws.specs.TreeNames.{IsNamed, HasIdentifiers, IsNamedStatement}
use Rattle.source_laws.proofs.Words.{read_clean}

-- ---- the language

gives-known : (at : Span) (o : Option Syntax) → Gives IsAny (known at o)
gives-known at (Some x) = gives-pure x tt
gives-known at None = gives-none (λ ts. unknown_syntax at)

gives-syntax_behind : (p : Span) → Gives IsAny (syntax_behind p)
unfolding syntax_behind
gives-syntax_behind p = gives-after (Local-expect _) (λ e. gives-after Local-strings (λ v.
    gives-bind (gives-known (words_span v) (language (joined v))) (λ x c.
    gives-after (Local-expect _) (λ q. gives-pure _ tt))))

gives-syntax_if : (o : Option Span) → Gives IsAny (syntax_if o)
gives-syntax_if None = gives-pure _ tt
gives-syntax_if (Some p) = gives-map _ (gives-syntax_behind p) (λ x any. tt)

gives-unless_edition : (o : Option Span) → Gives IsAny (unless_edition o)
gives-unless_edition (Some at) = gives-none (λ ts. unknown_syntax at)
gives-unless_edition None = gives-after (Local-eat _) gives-syntax_if

gives-syntax : Gives IsAny syntax
unfolding syntax
gives-syntax = gives-after (Local-eat _) gives-unless_edition

-- ---- statements

gives-public_if : (o : Option Span) → Gives IsAny (public_if o)
gives-public_if (Some p) = gives-pure _ tt
gives-public_if None = gives-pure _ tt

gives-weak_if : (o : Option Span) → Gives IsAny (weak_if o)
gives-weak_if (Some p) = gives-pure _ tt
gives-weak_if None = gives-after (Local-eat _) gives-public_if

gives-import_kind : Gives IsAny import_kind
unfolding import_kind
gives-import_kind = gives-after (Local-eat _) gives-weak_if

gives-import : Gives IsAny an_import
unfolding an_import
gives-import = gives-after (Local-expect _) (λ p. gives-bind gives-import_kind (λ k b.
    gives-after Local-strings (λ v. gives-after (Local-expect _) (λ q. gives-pure _ tt))))

gives-package : Gives (λ p. IsSome_of IsNamed p.name) a_package
unfolding a_package
gives-package = gives-after (Local-expect _) (λ p. gives-bind gives-full (λ n h.
    gives-after (Local-expect _) (λ q. gives-pure _ h)))

gives-item_unless : (o : Option Span) → Gives IsNamedStatement (file_item_unless o)
gives-item_unless (Some p) = gives-pure _ tt
gives-item_unless None =
    gives-choose _ (gives-map _ gives-import (λ x any. tt))
    (gives-choose _ (gives-map _ gives-package (λ x h. h))
    (gives-choose _ (gives-map _ (gives-message (block 31) (gives-block 31)) (λ x h. h))
    (gives-choose _ (gives-map _ gives-enum (λ x h. h))
    (gives-choose _ (gives-map _ gives-service (λ x h. h))
    (gives-choose _ (gives-map _ (gives-extend (block 31) (gives-block 31)) (λ x h. h))
    (gives-choose _ (gives-map _ (gives-any Local-option) (λ x any. tt))
    (gives-none (refusal source a_file_item))))))))

gives-item : Gives IsNamedStatement file_item
unfolding file_item
gives-item = gives-after (Local-eat _) gives-item_unless

gives-items : Gives (Each IsNamedStatement) file_items
unfolding file_items
gives-items = gives-loop _ (gives-when _ gives-item)

gives-file : Gives HasIdentifiers file
unfolding file
gives-file = gives-bind gives-syntax (λ x a. gives-bind gives-items (λ is hs. gives-pure _ hs))

-- names are identifiers in the tree that a text spells
pub spelled_named : (z : Text) (tree : File) → Spells z tree → HasIdentifiers tree
spelled_named z tree h = (gives-file.at h.0 [] tree (read_clean z h.0 h.1) h.2).0
