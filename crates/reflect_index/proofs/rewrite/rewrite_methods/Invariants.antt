use Rattle.std.proofs.Common.{◌≡◌, map, length, take, drop}
use Rattle.descriptor_records.specs.Content.{method_view}
use Rattle.reflect_known.specs.GivenNames.{method_name}
use Rattle.reflect_index.specs.Rewriting.{names_left, write_each, write_method}
use Rattle.reflect_index.proofs.Writing.{with_front}
use Rattle.reflect_index.proofs.rewrite.rewrite_methods.Given as goal

abbrev pub invariant-methods : goal.invariant-methods
invariant-methods l = record {
  names : map method_name l.methods.items ≡ map method_name l.initial.methods.items;
  written : write_each write_method (names_left l.initial.rest) (map method_view l.initial.methods.items)
      ≡ with_front (take l.place (map method_view l.methods.items))
      (write_each write_method (names_left l.rest) (drop l.place (map method_view l.methods.items)));
  count : length l.methods.items ≡ length l.initial.methods.items;
}
