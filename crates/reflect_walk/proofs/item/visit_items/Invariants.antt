use Rattle.std.proofs.Common.{◌≡◌, ◌+◌, take}
use Rattle.reflect_declarations.specs.Declarations.{Runs, each}
use Rattle.reflect_walk.specs.Items.{placed}
use Rattle.reflect_walk.proofs.item.visit_items.Given as goal

abbrev pub invariant-turns : goal.invariant-turns
invariant-turns g l = record {
  runs : Runs g.V.Visitor.steps l.initial.visitor (each (placed g.I.Item.declared l.path l.tag l.scope l.file l.parent l.initial.count) 0 (take l.at l.item-items)) l.visitor;
  counts : l.count ≡ l.initial.count + l.at;
  keeps : g.V.Visitor.kept l.file l.initial.visitor l.visitor;
}
