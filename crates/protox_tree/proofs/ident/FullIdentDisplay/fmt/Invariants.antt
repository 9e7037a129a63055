use Rattle.std.proofs.Common.{take, ◌∷◌}
use Rattle.std.specs.Fmt.{HasWritten, IsPlainFormatter}
use Rattle.std.specs.List.{flat_map}
use Rattle.protox_tree.specs.Tree as tree
use Rattle.protox_tree.specs.View.{idents_view}
use Rattle.protox_tree.proofs.ident.FullIdentDisplay.fmt.Given as goal

abbrev pub invariant-others : goal.invariant-others
invariant-others g l =
    IsPlainFormatter l.initial.f
    → HasWritten g.W.Write.write_str_gives l.initial.f (flat_map (λ (w : tree.Word). 46 ∷ w.text) (idents_view (take l.part-index l.others))) l.f
