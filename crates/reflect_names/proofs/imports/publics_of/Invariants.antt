use Rattle.std.proofs.Common.{◌≡◌, take}
use Rattle.std.specs.List.{filter_map}
use Rattle.reflect_scope.specs.FileIndexes.{indexes_of}
use Rattle.reflect_names.specs.ImportedFiles.{import_at}
use Rattle.reflect_names.proofs.imports.publics_of.Given as goal

abbrev pub invariant-turns : goal.invariant-turns
invariant-turns l = l.files.items ≡ filter_map (import_at (indexes_of l.file_names) l.names.items) (take l.import-index l.import-items)
