use Rattle.std.proofs.Common.{map}
use Rattle.reflect_pool.specs.FieldsLeft.{fields_left, type_in}
use Rattle.print_parts.specs.Parts.{declared_entry}
use Rattle.print_parts.proofs.Choosing.{IsChosen}
use Rattle.print_parts.proofs.entries.printed_fields.Given as goal

abbrev pub invariant-loop-declared : goal.invariant-loop-declared
invariant-loop-declared l = IsChosen l.options l.message (map declared_entry l.fields.items) (map type_in (fields_left l.declared-iterator))
