use Rattle.std.proofs.Common.{◌∙◌, ◌++◌, [], ap, sym, take}
use Rattle.std.specs.Option.{option_or}
use Rattle.protox_check.proofs.Behind.{told_more, first_more}
use Rattle.protox_check.specs.Faults.{file_item_faults, item_faults_behind, package_at}
use Rattle.protox_check.specs.Words.{each_behind, first_in}
use Rattle.protox_tree.specs.FileView.{file_item_view, file_items_view}
use Rattle.protox_check.proofs.check_file.Goals as goal

pub each-preserved : goal.each-preserved
each-preserved c =
    let s = c.syntax-syntax.result in
    let xs = c.deref-item-items.result.now in
    let i = c.each.item-index in
    let x = c.item-item.result in
    let before = file_items_view (take i xs) in
    record {
      told = c.in_ok-check_item.ensures
          ∙ ap (λ ks. ks ++ file_item_faults s c.each.first_package (file_item_view x)) c.each.invariant.told
          ∙ ap (λ p. each_behind (item_faults_behind s) [] before ++ file_item_faults s p (file_item_view x)) c.each.invariant.first
          ∙ sym (told_more file_item_view (item_faults_behind s) xs i x c.each-test.true c.item-item.is);
      first = c.or-first_package.ensures
          ∙ ap (λ p. option_or p c.package_at.result) c.each.invariant.first
          ∙ ap (option_or (first_in package_at before)) c.package_at.ensures
          ∙ sym (first_more file_item_view package_at xs i x c.each-test.true c.item-item.is);
    }
