use Rattle.std.proofs.Common.{◌≡◌, map, length, take, drop}
use Rattle.descriptor_records.specs.Content.{field_view}
use Rattle.reflect_known.specs.GivenNames.{field_name}
use Rattle.reflect_index.specs.Rewriting.{names_left, write_each, write_type}
use Rattle.reflect_index.proofs.Writing.{with_front}
use Rattle.reflect_index.proofs.rewrite.rewrite_fields.Given as goal

abbrev pub invariant-fields : goal.invariant-fields
invariant-fields l = record {
  names : map field_name l.fields.items ≡ map field_name l.initial.fields.items;
  written : write_each write_type (names_left l.initial.rest) (map field_view l.initial.fields.items)
      ≡ with_front (take l.place (map field_view l.fields.items))
      (write_each write_type (names_left l.rest) (drop l.place (map field_view l.fields.items)));
  count : length l.fields.items ≡ length l.initial.fields.items;
}
