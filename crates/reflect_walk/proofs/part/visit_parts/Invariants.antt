use Rattle.std.proofs.Common.{take}
use Rattle.reflect_declarations.specs.Declarations.{Runs, each}
use Rattle.reflect_walk.proofs.part.visit_parts.Given as goal

abbrev pub invariant-turns : goal.invariant-turns
invariant-turns g l = record {
  runs : Runs g.V.Visitor.steps l.initial.visitor (each (g.P.Part.declared l.path l.scope l.file l.holder) 0 (take l.at l.part-items)) l.visitor;
  keeps : g.V.Visitor.kept l.file l.initial.visitor l.visitor;
}
