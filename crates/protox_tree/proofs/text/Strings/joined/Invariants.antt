use Rattle.std.proofs.Common.{◌≡◌, take}
use Rattle.protox_tree.specs.Tree.{joined}
use Rattle.protox_tree.specs.View.{literals_view}
use Rattle.protox_tree.proofs.text.Strings.joined.Given as goal

abbrev pub invariant-literals : goal.invariant-literals
invariant-literals l = l.value.items ≡ joined (literals_view (take l.literal-index l.literal-items))
