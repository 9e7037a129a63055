use Rattle.std.proofs.Common.{rules, ◌≡◌, ◌<◌, ◌-◌, length, ap, sym, ◌∙◌}
use Rattle.std.specs.Prelude.{get_or}
use Rattle.protox_tree.proofs.Covers.{cover}
use Rattle.protox_lex.specs.Span.{across}
use Rattle.protox_tree.specs.View.{ident_view}
use Rattle.protox_tree.proofs.ident.FullIdent.span.Goals as goal

pub returns : goal.returns
returns c =
    let ls = c.args.self.now.parts.items in
    let some : 0 < length ls = search rules in
    let first : c.index.result.now ≡ get_or ls 0 c.index.result.now = search rules in
    let last : c.index-2.result.now ≡ get_or ls (length ls - 1) c.index-2.result.now = search rules in
    c.across.ensures
    ∙ sym (cover ident_view (λ w. w.span) ls c.index.result.now c.index-2.result.now some
    ∙ ap (λ l. across l.span (get_or ls (length ls - 1) c.index-2.result.now).span) (sym first)
    ∙ ap (λ l. across c.index.result.now.span l.span) (sym last))
