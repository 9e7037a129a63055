use Rattle.std.proofs.Common.{◌≡◌, map, length, take, drop}
use Rattle.descriptor_records.specs.Content.{file_view}
use Rattle.reflect_known.specs.GivenNames.{names_of_file}
use Rattle.reflect_tables.specs.Views.{record_file}
use Rattle.reflect_index.specs.Rewriting.{names_left, write_each, write_file}
use Rattle.reflect_index.proofs.Writing.{with_front}
use Rattle.reflect_index.proofs.rewrite.rewritten.Given as goal

abbrev pub invariant-loop-place : goal.invariant-loop-place
invariant-loop-place l = record {
  headers : map record_file l.files.items ≡ map record_file l.initial.files.items;
  names : map names_of_file l.files.items ≡ map names_of_file l.initial.files.items;
  written : write_each write_file (names_left l.initial.rest) (map file_view l.initial.files.items)
      ≡ with_front (take l.place (map file_view l.files.items))
      (write_each write_file (names_left l.rest) (drop l.place (map file_view l.files.items)));
  count : length l.files.items ≡ length l.initial.files.items;
}
