use Rattle.std.proofs.Common.{◌≡◌, ◌++◌, map}
use Rattle.reflect_message.specs.Held.{unknown_of}
use Rattle.reflect_contents.specs.Left.{records_left}
use Rattle.print_parts.specs.Entries.{undeclared}
use Rattle.print_parts.specs.Parts.{other_entry}
use Rattle.print_parts.proofs.entries.push_unknown.Given as goal

-- those that were put and those that are left are all
abbrev pub invariant-loop-record : goal.invariant-loop-record
invariant-loop-record l =
    map other_entry l.others.items ++ map undeclared (records_left l.record-iterator)
    ≡ map other_entry l.initial.others.items ++ map undeclared (unknown_of l.message)
