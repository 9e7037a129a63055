-- Files tell their faults at the first token with which nothing goes on.
use Rattle.std.proofs.Common.{[], ◌≡◌, Bool, true, false, not, ◌∷◌, Option, Some, None, refl}
use Rattle.std.specs.Prelude.{codes}
use Rattle.protox_file.specs.FileGrammar.{unless_edition, syntax_if, syntax, public_if, weak_if, import_kind, an_import, a_package, file_item_unless, file_item, file_items, file}
use Rattle.protox_file.proofs.FileLaws.{file_turns}
use Rattle.protox_lex.specs.Token.{ident, sign}
use Rattle.protox_lex.specs.declared.span.Span.{Span}
use Rattle.protox_lex.specs.declared.token.Sign.TheVariants as signs
use Rattle.protox_messages.specs.MessageGrammar.{block}
use Rattle.protox_messages.proofs.MessageLaws.{Local-block}
use Rattle.protox_tokens.specs.Stream.{Piece, Stream, source, is_over}
use Rattle.protox_tokens.specs.Parser.{sees, is_string, when}
use Rattle.protox_tokens.specs.Refusal.{a_file_item}
use Rattle.protox_tokens.proofs.Local.{of_head-sees}
use Rattle.protox_tokens.proofs.Both.{Always}
use Rattle.protox_tree.specs.FileTree.{file_import, file_package, file_option, file_message, file_enum, file_service, file_extend, file_empty}
use Rattle.source_grammar.specs.Refusals.{OpensBlock}
use Rattle.source_grammar.proofs.ViableTokens.{import_written, package_written, sign_written}
use Rattle.source_grammar.proofs.Viable.{Viable, viable_then, viable_pure, Any, viable_end, viable_map, viable_made}
use Rattle.source_grammar.proofs.ViableForms.{If, Else, viable_kinds}
use Rattle.source_grammar.proofs.ViableSteps.{Heads, made, viable_expect, viable_branch, viable_fault, viable_only}
use Rattle.source_grammar.proofs.ViableLoops.{viable_loop, viable_when, stops_when}
use Rattle.source_grammar.proofs.ViableNames.{some_string, start, viable_full, viable_strings, Then, then_heads}
use Rattle.source_grammar.proofs.ViableOptions.{viable_option}
use Rattle.source_grammar.proofs.ViableDeclarations.{viable_enum, viable_service}
use Rattle.source_grammar.proofs.ViableMessages.{viable_message, open_messages, open_groups, viable_extend, viable_block}
use Rattle.source_grammar.proofs.ViableSyntax.{viable_syntax_behind}

-- ---- imports and packages

abbrev NoWord : Stream → Type 0
NoWord = Else (Else Always (sees (ident (codes "weak")))) (sees (ident (codes "public")))

-- Where neither word stands, none comes next.
abbrev Imported : {A : Type 0} → Bool → A → Stream → Type 0
Imported i a = Then NoWord i

viable_import_kind : {W : Piece → Type 0} → Viable W Always import_kind Imported
unfolding import_kind
viable_import_kind = viable_branch _ source (ident (codes "weak")) Always (λ x t u h. h) weak_if (λ at. viable_pure false _ (λ s h. tt) (λ s h. tt))
    (viable_branch _ source (ident (codes "public")) (Else Always (sees (ident (codes "weak")))) (λ x t u h. h) public_if (λ at. viable_pure false _ (λ s h. tt) (λ s h. tt))
    (viable_pure true None (λ s h. h) (λ s h. h)))

string_start : (i : Bool) (s : Stream) → Then NoWord i (made some_string ∷ s)
string_start true s = ((tt, refl), refl)
string_start false s = tt

viable_import : {W : Piece → Type 0} (H : Stream → Type 0) → Heads H → ((s : Stream) → H (made (ident (codes "import")) ∷ s)) → Viable W H an_import Any
unfolding an_import
viable_import H heads starts =
    viable_then (viable_expect (ident (codes "import")) import_written H heads refl starts) (λ i p. viable_then viable_import_kind (λ j k.
    viable_then (viable_strings (Then NoWord j) (then_heads NoWord (λ x t u h. h) j) (string_start j)) (λ l v.
    viable_then (viable_expect (sign signs.Semicolon) (sign_written signs.Semicolon) (λ s. is_string s ≡ false) (λ x t u h. h) refl (λ s. refl)) (λ m q. viable_end _))))

viable_package : {W : Piece → Type 0} (H : Stream → Type 0) → Heads H → ((s : Stream) → H (made (ident (codes "package")) ∷ s)) → Viable W H a_package Any
unfolding a_package
viable_package H heads starts =
    viable_then (viable_expect (ident (codes "package")) package_written H heads refl starts) (λ i p. viable_then (viable_full Always (λ x t u h. h) start (λ s. tt)) (λ j n.
    viable_then (viable_expect (sign signs.Semicolon) (sign_written signs.Semicolon) (λ s. sees (sign signs.Dot) s ≡ false) (λ x t u h. h) refl (λ s. refl)) (λ k q. viable_end _)))

-- ---- the language

-- A file that names no language does not begin with these words.
abbrev NoName : Stream → Type 0
NoName = Else (Else Always (sees (ident (codes "edition")))) (sees (ident (codes "syntax")))

abbrev Begun : {A : Type 0} → Bool → A → Stream → Type 0
Begun i a = Then NoName i

viable_syntax_if : {W : Piece → Type 0} → (o : Option Span) → Viable W Always (syntax_if o) Begun
viable_syntax_if None = viable_pure false None (λ s h. tt) (λ s h. tt)
viable_syntax_if (Some first) = viable_map Some (λ i a. false) (λ i a s h. tt) (λ i a s h. tt) (viable_syntax_behind _ first)

viable_syntax : {W : Piece → Type 0} → Viable W Always syntax Begun
unfolding syntax
viable_syntax = viable_fault _ source (ident (codes "edition")) Always (λ x t u h. h) unless_edition (λ at. record { at = λ ts h. tt })
    (viable_branch _ source (ident (codes "syntax")) (Else Always (sees (ident (codes "edition")))) (λ x t u h. h) syntax_if
    (λ at. viable_syntax_if (Some at)) (viable_pure true None (λ s h. h) (λ s h. h)))

-- ---- statements

-- A statement behind which others may stand, wherever words of the first statement do not begin one.
module _ (K : Stream → Type 0) (heads : Heads K) (starts : (k : Piece) (s : Stream) → sees (ident (codes "edition")) (k ∷ s) ≡ false → sees (ident (codes "syntax")) (k ∷ s) ≡ false → K (k ∷ s)) where
  abbrev in_file : Stream → Type 0
  in_file = If K (λ ts. not (is_over ts))

  in_heads : Heads in_file
  in_heads x t u h = (heads x t u h.0, refl)

  abbrev no_empty : Stream → Type 0
  no_empty = Else in_file (sees (sign signs.Semicolon))

  empty_heads : Heads no_empty
  empty_heads x t u h = (in_heads x t u h.0, h.1)

  abbrev no_import : Stream → Type 0
  no_import = Else no_empty (sees (ident (codes "import")))

  import_heads : Heads no_import
  import_heads x t u h = (empty_heads x t u h.0, h.1)

  abbrev no_package : Stream → Type 0
  no_package = Else no_import (sees (ident (codes "package")))

  package_heads : Heads no_package
  package_heads x t u h = (import_heads x t u h.0, h.1)

  abbrev no_message : Stream → Type 0
  no_message = Else no_package (sees (ident (codes "message")))

  message_heads : Heads no_message
  message_heads x t u h = (package_heads x t u h.0, h.1)

  abbrev no_enum : Stream → Type 0
  no_enum = Else no_message (sees (ident (codes "enum")))

  enum_heads : Heads no_enum
  enum_heads x t u h = (message_heads x t u h.0, h.1)

  abbrev no_service : Stream → Type 0
  no_service = Else no_enum (sees (ident (codes "service")))

  service_heads : Heads no_service
  service_heads x t u h = (enum_heads x t u h.0, h.1)

  abbrev no_extend : Stream → Type 0
  no_extend = Else no_service (sees (ident (codes "extend")))

  extend_heads : Heads no_extend
  extend_heads x t u h = (service_heads x t u h.0, h.1)

  viable_file_item : Viable OpensBlock in_file file_item Any
  unfolding file_item
  viable_file_item = viable_branch _ source (sign signs.Semicolon) in_file in_heads file_item_unless (λ at. viable_end (file_empty at))
      (viable_kinds (sees (ident (codes "import"))) file_import (viable_import (If no_empty (sees (ident (codes "import")))) (λ x t u h. (empty_heads x t u h.0, h.1)) (λ s. (((starts (made (ident (codes "import"))) s refl refl, refl), refl), refl)))
      (viable_kinds (sees (ident (codes "package"))) file_package (viable_package (If no_import (sees (ident (codes "package")))) (λ x t u h. (import_heads x t u h.0, h.1)) (λ s. ((((starts (made (ident (codes "package"))) s refl refl, refl), refl), refl), refl)))
      (viable_kinds (sees (ident (codes "message"))) file_message (viable_message (block 31) (viable_block 30) (If no_package (sees (ident (codes "message")))) (λ x t u h. (package_heads x t u h.0, h.1)) (λ s. (((((starts (made (ident (codes "message"))) s refl refl, refl), refl), refl), refl), refl)))
      (viable_kinds (sees (ident (codes "enum"))) file_enum (viable_enum (If no_message (sees (ident (codes "enum")))) (λ x t u h. (message_heads x t u h.0, h.1)) (λ s. ((((((starts (made (ident (codes "enum"))) s refl refl, refl), refl), refl), refl), refl), refl)))
      (viable_kinds (sees (ident (codes "service"))) file_service (viable_service (If no_enum (sees (ident (codes "service")))) (λ x t u h. (enum_heads x t u h.0, h.1)) (λ s. (((((((starts (made (ident (codes "service"))) s refl refl, refl), refl), refl), refl), refl), refl), refl)))
      (viable_kinds (sees (ident (codes "extend"))) file_extend
      (viable_extend (block 31) (Local-block 31) (open_messages (block 31) (viable_block 30)) (open_groups (block 31) (viable_block 30)) (If no_service (sees (ident (codes "extend")))) (λ x t u h. (service_heads x t u h.0, h.1)) (λ s. ((((((((starts (made (ident (codes "extend"))) s refl refl, refl), refl), refl), refl), refl), refl), refl), refl)))
      (viable_only (sees (ident (codes "option"))) (of_head-sees (ident (codes "option"))) source a_file_item no_extend extend_heads
      (viable_made file_option (viable_option (If no_extend (sees (ident (codes "option")))) (λ x t u h. (extend_heads x t u h.0, h.1)) (λ s. (((((((((starts (made (ident (codes "option"))) s refl refl, refl), refl), refl), refl), refl), refl), refl), refl), refl)))))))))))

name_start : (i : Bool) (k : Piece) (s : Stream) → sees (ident (codes "edition")) (k ∷ s) ≡ false → sees (ident (codes "syntax")) (k ∷ s) ≡ false → Then NoName i (k ∷ s)
name_start true k s e f = ((tt, e), f)
name_start false k s e f = tt

-- a file at whose end nothing is left
abbrev Finished : {A : Type 0} → Bool → A → Stream → Type 0
Finished i a = λ s. Then NoName i s × (not (is_over s) ≡ false)

viable_file_items : (i : Bool) → Viable OpensBlock (Then NoName i) file_items Finished
unfolding file_items
viable_file_items i = viable_loop (Then NoName) (λ s. not (is_over s) ≡ false) _ (when (λ ts. not (is_over ts)) file_item) file_turns
    (λ i. viable_when (λ ts. not (is_over ts)) (Then NoName) (λ j a. false) (λ j a s h. tt) (λ j a s h. tt) i (viable_file_item (Then NoName i) (then_heads NoName (λ x t u h. h) i) (name_start i)))
    (λ i s h e. stops_when (λ ts. not (is_over ts)) file_item s e) i

pub viable_file : Viable OpensBlock Always file Finished
unfolding file
viable_file = viable_then viable_syntax (λ i x. viable_then (viable_file_items i) (λ j is. viable_pure j _ (λ s h. h) (λ s h. h)))

pub finished : {A : Type 0} (i : Bool) (a : A) → Finished i a []
finished true a = (((tt, refl), refl), refl)
finished false a = (tt, refl)
