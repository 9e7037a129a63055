use Rattle.std.proofs.Common.{◌≡◌, map, length, take, drop}
use Rattle.descriptor_records.specs.Content.{message_view}
use Rattle.reflect_known.specs.GivenNames.{names_of_message}
use Rattle.reflect_index.specs.Rewriting.{names_left, write_each, write_message}
use Rattle.reflect_index.proofs.Writing.{with_front}
use Rattle.reflect_index.proofs.rewrite.+rewrite_messages.Given as goal

abbrev pub invariant-turns : goal.invariant-turns
invariant-turns l = record {
  names : map names_of_message l.messages.items ≡ map names_of_message l.initial.messages.items;
  written : write_each write_message (names_left l.initial.rest)
      (map message_view l.initial.messages.items)
      ≡ with_front (take l.place (map message_view l.messages.items))
      (write_each write_message (names_left l.rest)
      (drop l.place (map message_view l.messages.items)));
  count : length l.messages.items ≡ length l.initial.messages.items;
  unvisited : goal.unvisited-turns l;
}
