use Rattle.std.proofs.Common.{◌≡◌, ◌++◌, map, take, drop, length}
use Rattle.descriptor_records.specs.Content.{field_view}
use Rattle.option_parts.specs.TypedOptions.{typed_field}
use Rattle.option_parts.proofs.typed_options.copy_in_fields.Given as goal

abbrev pub invariant-loop-place : goal.invariant-loop-place
invariant-loop-place l = record {
  changed : map field_view l.fields.items ≡ map typed_field (take l.place (map field_view l.initial.fields.items)) ++ drop l.place (map field_view l.initial.fields.items);
  count : length l.fields.items ≡ length l.initial.fields.items;
}
