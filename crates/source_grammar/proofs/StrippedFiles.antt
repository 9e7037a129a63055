-- Whole sources as tokens alone: these spell the tree without its places.
use Rattle.std.proofs.Common.{[], ◌≡◌, ◌-◌, ◌++◌, ℕ, zero, suc, List, ◌∷◌, length, map, Option, Some, None, refl, ap, sym, ◌∙◌}
use Rattle.std.specs.List.{AllByRecursion}
use Rattle.std.specs.Prelude.{codes, option_map, slice_get}
use Rattle.protox_laws.specs.Unplaced as unplaced
use Rattle.protox_laws.specs.Unplaced.{nowhere}
use Rattle.protox_lex.specs.Token.{ident, sign}
use Rattle.protox_lex.specs.declared.span.Span.{Span}
use Rattle.protox_lex.specs.declared.token.Sign.TheVariants as s
use Rattle.protox_tree.specs.FileTree.{SyntaxStatement, Import, Package, FileItem, file_import, file_package, file_option, file_message, file_enum, file_service, file_extend, file_empty, File, item_span, file_span}
use Rattle.protox_tree.specs.Nest.{message, extend}
use Rattle.protox_tree.specs.Tree.{Word, joined, span_between, spans_cover}
use Rattle.protox_tree.specs.declared.file.ImportKind.{ImportKind}
use Rattle.source_grammar.proofs.Stripped.{Strips, strips_spot, strips_token, strips_the, strips_nothing, strips_then, strips_given, strips_each}
use Rattle.source_grammar.proofs.StrippedDeclarations.{strips_enum, strips_service}
use Rattle.source_grammar.proofs.StrippedMessages.{strips_message, strips_extend, strips_block}
use Rattle.source_grammar.proofs.StrippedOptions.{strips_full, strips_string, strips_option}
use Rattle.source_grammar.specs.Files.{a_syntax_if, import_word, an_import_kind, an_import, a_package, a_file_item, a_file}
use Rattle.source_grammar.specs.Messages.{block}

-- ---- where a file stands

abbrev IsNowhere : Span → Type 0
IsNowhere at = at ≡ nowhere

abbrev IsNoPlace : Option Span → Type 0
IsNoPlace None = Unit {0}
IsNoPlace (Some at) = IsNowhere at

no_place : (ss : List Span) (k : ℕ) → AllByRecursion IsNowhere ss → IsNoPlace (slice_get ss k)
no_place [] k h = tt
no_place (x ∷ xs) zero h = h.0
no_place (x ∷ xs) (suc k) h = no_place xs k h.1

between_nowhere : (first final : Option Span) → IsNoPlace first → IsNoPlace final → nowhere ≡ span_between first final
between_nowhere None None g h = refl
between_nowhere None (Some b) g h = refl
between_nowhere (Some a) None g h = refl
between_nowhere (Some a) (Some b) g h =
    let from : nowhere ≡ a = sym g in
    let to : nowhere ≡ b = sym h in
    λ i. record { start = (from i).start; end = (to i).end }

cover_nowhere : (ss : List Span) → AllByRecursion IsNowhere ss → nowhere ≡ spans_cover ss
cover_nowhere ss h = between_nowhere (slice_get ss 0) (slice_get ss (length ss - 1)) (no_place ss 0 h) (no_place ss (length ss - 1) h)

item_nowhere : (i : FileItem) → IsNowhere (item_span (unplaced.a_file_item i))
item_nowhere (file_import x) = refl
item_nowhere (file_package x) = refl
item_nowhere (file_option o) = refl
item_nowhere (file_message (message w braces items at)) = refl
item_nowhere (file_enum e) = refl
item_nowhere (file_service x) = refl
item_nowhere (file_extend (extend t braces added at)) = refl
item_nowhere (file_empty at) = refl

items_nowhere : (is : List FileItem) → AllByRecursion IsNowhere (map item_span (map unplaced.a_file_item is))
items_nowhere [] = tt
items_nowhere (i ∷ is) = (item_nowhere i, items_nowhere is)

file_nowhere : (x : Option SyntaxStatement) (is : List FileItem) → nowhere ≡ file_span (option_map unplaced.a_syntax x) (map unplaced.a_file_item is)
file_nowhere None is = cover_nowhere (map item_span (map unplaced.a_file_item is)) (items_nowhere is)
file_nowhere (Some x) is = cover_nowhere (nowhere ∷ map item_span (map unplaced.a_file_item is)) (refl, items_nowhere is)

-- ---- statements

same_joined : (ws : List Word) → joined (unplaced.words ws) ≡ joined ws
same_joined [] = refl
same_joined (w ∷ ws) = ap (λ x. w.text ++ x) (same_joined ws)

strips_syntax : (o : Option SyntaxStatement) → Strips (a_syntax_if o) (a_syntax_if (option_map unplaced.a_syntax o))
strips_syntax None = strips_nothing
strips_syntax (Some x) = strips_then (strips_token (ident (codes "syntax")) refl) (strips_then (strips_the (sign s.Equals)) (strips_then (strips_string x.value)
    (strips_given (λ h. same_joined x.value ∙ h) (strips_token (sign s.Semicolon) refl))))

strips_import_kind : (o : Option (ImportKind × Span)) → Strips (an_import_kind o) (an_import_kind (option_map unplaced.unmarked o))
strips_import_kind None = strips_nothing
strips_import_kind (Some x) = strips_spot (ident (import_word x.0)) x.1

strips_import : (x : Import) → Strips (an_import x) (an_import (unplaced.an_import x))
strips_import x = strips_then (strips_token (ident (codes "import")) refl) (strips_then (strips_import_kind x.kind) (strips_then (strips_string x.value) (strips_token (sign s.Semicolon) refl)))

strips_package : (x : Package) → Strips (a_package x) (a_package (unplaced.a_package x))
strips_package x = strips_then (strips_token (ident (codes "package")) refl) (strips_then (strips_full x.name) (strips_token (sign s.Semicolon) refl))

strips_item : (i : FileItem) → Strips (a_file_item i) (a_file_item (unplaced.a_file_item i))
strips_item (file_import x) = strips_import x
strips_item (file_package x) = strips_package x
strips_item (file_option o) = strips_option o
strips_item (file_message m) = strips_message (block 31) (strips_block 31) m
strips_item (file_enum e) = strips_enum e
strips_item (file_service x) = strips_service x
strips_item (file_extend e) = strips_extend (block 31) (strips_block 31) e
strips_item (file_empty at) = strips_spot (sign s.Semicolon) at

pub strips_file : (f : File) → Strips (a_file f) (a_file (unplaced.unplaced f))
strips_file f = strips_then (strips_syntax f.syntax) (strips_given (λ h. file_nowhere f.syntax f.items) (strips_each a_file_item unplaced.a_file_item strips_item f.items))
