use Rattle.std.proofs.Common.{◌≡◌, ◌+◌, take}
use Rattle.reflect_declarations.specs.Declarations.{Runs}
use Rattle.reflect_declarations.specs.Batches.{past_files, batch_declarations, KeptBy}
use Rattle.reflect_walk.proofs.visit_files.visit_all.Given as goal

abbrev pub invariant-turns : goal.invariant-turns
invariant-turns g l = record {
  runs : Runs g.V.Visitor.steps l.initial.visitor (batch_declarations l.initial.offsets l.initial.index (take l.file-index l.files)) l.visitor;
  counts : l.offsets ≡ past_files l.initial.offsets (take l.file-index l.files);
  index : l.index ≡ l.initial.index + l.file-index;
  keeps : KeptBy g.V.Visitor.kept l.initial.index l.file-index l.initial.visitor l.visitor;
}
