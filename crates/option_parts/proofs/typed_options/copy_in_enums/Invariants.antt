use Rattle.std.proofs.Common.{◌≡◌, ◌++◌, map, take, drop, length}
use Rattle.descriptor_records.specs.Content.{enum_view}
use Rattle.option_parts.specs.TypedOptions.{typed_enum}
use Rattle.option_parts.proofs.typed_options.copy_in_enums.Given as goal

abbrev pub invariant-loop-place : goal.invariant-loop-place
invariant-loop-place l = record {
  changed : map enum_view l.enums.items ≡ map typed_enum (take l.place (map enum_view l.initial.enums.items)) ++ drop l.place (map enum_view l.initial.enums.items);
  count : length l.enums.items ≡ length l.initial.enums.items;
}
