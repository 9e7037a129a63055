use Rattle.std.proofs.Common.{◌≡◌, ◌++◌, map, take, drop, length}
use Rattle.descriptor_records.specs.Content.{file_view}
use Rattle.option_parts.specs.TypedOptions.{typed_file}
use Rattle.option_parts.proofs.typed_options.copy_typed_options.Given as goal

abbrev pub invariant-loop-place : goal.invariant-loop-place
invariant-loop-place l = record {
  changed : map file_view l.files.items ≡ map typed_file (take l.place (map file_view l.initial.files.items)) ++ drop l.place (map file_view l.initial.files.items);
  count : length l.files.items ≡ length l.initial.files.items;
}
