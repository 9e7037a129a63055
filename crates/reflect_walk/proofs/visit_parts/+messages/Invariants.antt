use Rattle.std.proofs.Common.{◌≡◌, map, take}
use Rattle.reflect_declarations.specs.Declarations.{Runs, trees_declarations, past_trees}
use Rattle.reflect_declarations.specs.Tree.{tree_of, messages_of}
use Rattle.reflect_walk.proofs.visit_parts.+messages.Given as goal

abbrev pub invariant-visit_messages-turns : goal.invariant-visit_messages-turns
invariant-visit_messages-turns g l = record {
  runs : Runs g.V.Visitor.steps l.initial.visitor (trees_declarations l.path l.tag l.scope l.file l.parent 0 l.initial.offsets (messages_of (map tree_of (take l.at l.message-items)))) l.visitor;
  counts : l.offsets ≡ past_trees l.initial.offsets (messages_of (map tree_of (take l.at l.message-items)));
  keeps : g.V.Visitor.kept l.file l.initial.visitor l.visitor;
}
