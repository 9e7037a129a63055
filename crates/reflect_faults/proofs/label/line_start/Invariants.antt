use Rattle.std.proofs.Common.{◌≡◌, ◌≤◌, drop}
use Rattle.reflect_faults.specs.SourceBytes.{first_of_line}
use Rattle.reflect_faults.proofs.Lines.{behind}
use Rattle.reflect_faults.proofs.label.line_start.Given as goal

abbrev pub invariant-bytes : goal.invariant-bytes
invariant-bytes l = record {
  start : first_of_line l.source l.line ≡ behind l.index (first_of_line (drop l.index l.source) l.left);
  more : 1 ≤ l.left;
}
