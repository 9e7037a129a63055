use Rattle.std.proofs.Common.{◌≡◌, map, length, take, drop}
use Rattle.descriptor_records.specs.Content.{field_view}
use Rattle.reflect_known.specs.GivenNames.{field_name}
use Rattle.reflect_index.specs.Rewriting.{names_left, write_each, write_extension}
use Rattle.reflect_index.proofs.Writing.{with_front}
use Rattle.reflect_index.proofs.rewrite.rewrite_extensions.Given as goal

abbrev pub invariant-extensions : goal.invariant-extensions
invariant-extensions l = record {
  names : map field_name l.extensions.items ≡ map field_name l.initial.extensions.items;
  written : write_each write_extension (names_left l.initial.rest)
      (map field_view l.initial.extensions.items)
      ≡ with_front (take l.place (map field_view l.extensions.items))
      (write_each write_extension (names_left l.rest)
      (drop l.place (map field_view l.extensions.items)));
  count : length l.extensions.items ≡ length l.initial.extensions.items;
}
