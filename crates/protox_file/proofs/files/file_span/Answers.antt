use Rattle.protox_file.proofs.Spans.{syntax_covers}
use Rattle.protox_tokens.specs.Span.{across}
use Rattle.protox_tree.specs.FileTree.{file_span}
use Rattle.protox_tree.specs.FileView.{syntax_view, file_items_view}
use Rattle.std.proofs.Common.{rules, ◌≡◌, ◌-◌, length, Some, option_map, ap, sym, ◌∙◌}
use Rattle.std.specs.Prelude.{slice_get}
use Rattle.protox_file.proofs.files.file_span.Goals as goal

pub returns-in-Some-default-Some : goal.returns-in-Some-default-Some
returns-in-Some-default-Some c =
    let b = c.in-Some-default-Some in
    let items = c.args.items.now in
    let at : slice_get items (length items - 1) ≡ Some b.last.now = search rules in
    let named : c.args.syntax.now ≡ Some b.syntax = search rules in
    c.across.ensures
    ∙ ap (λ p. across b.syntax.span p) c.span.ensures
    ∙ sym (ap (λ o. file_span (option_map syntax_view o) (file_items_view items)) named
    ∙ syntax_covers (syntax_view b.syntax) items b.last.now at)
