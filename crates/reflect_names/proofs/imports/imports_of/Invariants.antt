use Rattle.std.proofs.Common.{◌≡◌, take}
use Rattle.std.specs.List.{filter_map}
use Rattle.reflect_scope.specs.FileIndexes.{indexes_of}
use Rattle.reflect_names.specs.ImportedFiles.{file_of}
use Rattle.reflect_names.proofs.imports.imports_of.Given as goal

abbrev pub invariant-turns : goal.invariant-turns
invariant-turns l = l.files.items ≡ filter_map (file_of (indexes_of l.file_names)) (take l.name-index l.name-items)
