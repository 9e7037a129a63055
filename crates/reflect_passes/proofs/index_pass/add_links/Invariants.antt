use Rattle.std.proofs.Common.{◌≡◌, ◌++◌, map, take, length}
use Rattle.reflect_scope.specs.FileIndexes.{indexes_of, link_view}
use Rattle.reflect_names.specs.ImportedFiles.{links_to}
use Rattle.reflect_passes.proofs.index_pass.add_links.Given as goal

abbrev pub invariant-turns : goal.invariant-turns
invariant-turns l = record {
  added : map link_view l.links.items ≡ map link_view l.initial.links.items ++ map (links_to (indexes_of l.file_names)) (take l.file-index l.files);
  kept : take (length l.initial.links.items) l.links.items ≡ l.initial.links.items;
}
