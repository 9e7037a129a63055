use Rattle.std.proofs.Common.{◌≡◌, ◌++◌, ◌∷◌, take, string_bytes}
use Rattle.std.specs.List.{flat_map}
use Rattle.protox_tree.specs.Tree as tree
use Rattle.protox_tree.specs.View.{idents_view}
use Rattle.protox_tree.proofs.ident.FullIdent.to_text.Given as goal

abbrev pub invariant-others : goal.invariant-others
invariant-others l = string_bytes l.text ≡ string_bytes l.initial.text ++ flat_map (λ (w : tree.Word). 46 ∷ w.text) (idents_view (take l.part-index l.others))
