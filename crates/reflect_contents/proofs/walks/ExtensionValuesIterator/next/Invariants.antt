use Rattle.std.proofs.Common.{length, ◌≡◌}
use Rattle.reflect_entries.specs.Ahead.{entries_left}
use Rattle.reflect_contents.specs.Walked.{set_extensions}
use Rattle.reflect_contents.proofs.walks.ExtensionValuesIterator.next.Given as goal

-- what is set of what is left is what was
abbrev pub invariant-entries : goal.invariant-entries
invariant-entries l =
    set_extensions l.descriptor.pool.now l.descriptor.index (entries_left l.entries)
    ≡ set_extensions l.descriptor.pool.now l.descriptor.index (entries_left l.initial.entries)

abbrev pub decreases-entries : goal.decreases-entries
decreases-entries l = length (entries_left l.entries)
