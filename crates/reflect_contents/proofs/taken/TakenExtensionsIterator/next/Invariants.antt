use Rattle.std.proofs.Common.{length, ◌≡◌}
use Rattle.reflect_entries.specs.Ahead.{taken}
use Rattle.reflect_contents.specs.Walked.{set_extensions}
use Rattle.reflect_contents.proofs.taken.TakenExtensionsIterator.next.Given as goal

-- what is set of what is left is what was
abbrev pub invariant-entries : goal.invariant-entries
invariant-entries l = record {
  same_type : l.self.descriptor ≡ l.initial.self.descriptor;
  same_type_then : l.descriptor ≡ l.initial.self.descriptor;
  ahead : set_extensions l.descriptor.pool.now l.descriptor.index (taken l.self.entries)
      ≡ set_extensions l.descriptor.pool.now l.descriptor.index (taken l.initial.self.entries);
}

abbrev pub decreases-entries : goal.decreases-entries
decreases-entries l = length (taken l.self.entries)
