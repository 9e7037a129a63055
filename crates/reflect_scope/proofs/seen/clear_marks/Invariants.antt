use Rattle.std.proofs.Common.{take}
use Rattle.reflect_scope.proofs.Listed.{IsCleared}
use Rattle.reflect_scope.proofs.seen.clear_marks.Given as goal

abbrev pub invariant-turns : goal.invariant-turns
invariant-turns l = IsCleared l.initial.marks.items l.marks.items (take l.file-index l.file-items)
