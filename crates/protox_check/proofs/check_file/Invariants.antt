use Rattle.std.proofs.Common.{◌≡◌, [], take}
use Rattle.protox_check.specs.Faults.{item_faults_behind, package_at}
use Rattle.protox_check.specs.Words.{each_behind, first_in}
use Rattle.protox_tree.specs.FileView.{file_items_view}
use Rattle.protox_check.proofs.check_file.Given as goal

abbrev pub invariant-each : goal.invariant-each
invariant-each l = record {
  told : l.faults.items ≡ each_behind (item_faults_behind l.syntax) [] (file_items_view (take l.item-index l.item-items));
  first : l.first_package ≡ first_in package_at (file_items_view (take l.item-index l.item-items));
}
