use Rattle.std.proofs.Common.{◌≡◌, ◌++◌, map}
use Rattle.std.specs.List.{filter_map}
use Rattle.reflect_contents.specs.Walked.{extensions_left}
use Rattle.print_parts.specs.Entries.{extension_entries, given_entry}
use Rattle.print_parts.specs.Parts.{other_entry}
use Rattle.print_parts.proofs.entries.push_extensions.Given as goal

-- those that were put and those that are left are all
abbrev pub invariant-loop-extension : goal.invariant-loop-extension
invariant-loop-extension l =
    map other_entry l.others.items ++ filter_map given_entry (extensions_left l.extension-iterator)
    ≡ map other_entry l.initial.others.items ++ extension_entries l.message
