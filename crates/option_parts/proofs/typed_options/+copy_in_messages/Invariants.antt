use Rattle.std.proofs.Common.{◌≡◌, ◌++◌, map, take, drop, length}
use Rattle.descriptor_records.specs.Content.{message_view}
use Rattle.option_parts.specs.TypedOptions.{typed_message}
use Rattle.option_parts.proofs.typed_options.+copy_in_messages.Given as goal

abbrev pub invariant-loop-place : goal.invariant-loop-place
invariant-loop-place l = record {
  changed : map message_view l.messages.items ≡ map typed_message (take l.place (map message_view l.initial.messages.items)) ++ drop l.place (map message_view l.initial.messages.items);
  count : length l.messages.items ≡ length l.initial.messages.items;
  unvisited : goal.unvisited-loop-place l;
}
