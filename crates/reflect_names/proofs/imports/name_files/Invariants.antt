use Rattle.std.proofs.Common.{◌≡◌, ◌<◌, ◌≤◌, ◌+◌, ◌^◌, take}
use Rattle.reflect_faults.specs.Faults.{Adds, place_at}
use Rattle.reflect_scope.specs.FileIndexes.{indexes_of, KeepsIndexes}
use Rattle.reflect_names.specs.FileNames.{with_files, files_faults}
use Rattle.reflect_names.proofs.imports.name_files.Given as goal

abbrev pub invariant-turns : goal.invariant-turns
invariant-turns l = record {
  names : indexes_of l.file_names ≡ with_files (indexes_of l.initial.file_names) l.initial.index (take l.file-index l.files);
  faults : Adds l.initial.faults l.faults (files_faults (place_at l.initial.faults) (indexes_of l.initial.file_names) l.initial.index (take l.file-index l.files));
  keeps : KeepsIndexes l.initial.index (indexes_of l.initial.file_names) (indexes_of l.file_names);
  index : l.index ≡ l.initial.index + l.file-index;
  few : 0 < l.file-index → l.initial.index + l.file-index ≤ 2 ^ 31;
}
