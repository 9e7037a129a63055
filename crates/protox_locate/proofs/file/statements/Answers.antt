use Rattle.std.proofs.Common.{◌∷◌, [], List, map, ap, sym, ◌∙◌, refl}
use Rattle.protox_locate.specs.Declarations.{each}
use Rattle.protox_locate.specs.Collected.{meets, state}
use Rattle.protox_locate.specs.Located.{Event, part}
use Rattle.protox_locate.specs.Files.{after_item, item_events, no_counts, syntax_events}
use Rattle.protox_locate.specs.declared.file.FileCounts.{FileCounts}
use Rattle.protox_tree.specs.FileView.{file_item_view, file_view}
use Rattle.protox_tree.specs.declared.file.FileItem.{FileItem}
use Rattle.protox_locate.proofs.Meets.{all_met, meets_append, next_met}
use Rattle.protox_locate.proofs.file.statements.Goals as goal

pub items-preserved : goal.items-preserved
items-preserved c =
    next_met (λ n x. item_events n (file_item_view x)) (λ n x. after_item n (file_item_view x)) (λ n xs. each (item_events) after_item n (map file_item_view xs)) (λ n x xs. refl)
    c.deref-item-items.result.now c.items.item-index c.item-item.result (state c.items.locator) (state c.file_item.new.locator) c.items.counts c.file_item.new.counts
    c.items-test.true c.item-item.is c.in_ok-file_item.ensures.located c.in_ok-file_item.ensures.counted
    ∙ c.items.invariant

pub returns : goal.returns
returns c =
    let whole = part [] [] c.args.file.now.span in
    let start = state c.args.locator.now in
    let syntax = syntax_events (file_view c.args.file.now).syntax in
    let items = c.deref-item-items.result.now in
    let all : FileCounts → List FileItem → List Event = λ n xs. each (item_events) after_item n (map file_item_view xs) in
    let inside_is = sym (all_met all (λ n. refl) items c.items.item-index (state c.items.locator) c.items.counts c.items-test.false) ∙ c.items.invariant in
    inside_is ∙ ap (λ xs. meets (state c.syntax.new.locator) (all no_counts xs)) c.deref-item-items.ensures.value
    ∙ ap (λ s. meets s (all no_counts c.args.file.now.items.items)) (c.in_ok-syntax.ensures ∙ ap (λ s. meets s syntax) c.in_ok-add.ensures)
    ∙ sym (meets_append start (whole ∷ syntax) (all no_counts c.args.file.now.items.items))
