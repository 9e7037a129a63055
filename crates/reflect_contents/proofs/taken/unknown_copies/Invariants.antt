use Rattle.std.proofs.Common.{◌≡◌, ◌++◌, map}
use Rattle.reflect_wire.specs.Views.{field_view}
use Rattle.reflect_message.specs.Held.{unknown_of}
use Rattle.reflect_contents.specs.Left.{records_left}
use Rattle.reflect_contents.proofs.taken.unknown_copies.Given as goal

-- what was copied and what is left are all
abbrev pub invariant-loop-field : goal.invariant-loop-field
invariant-loop-field l = map field_view l.fields.items ++ records_left l.field-iterator ≡ unknown_of l.message
