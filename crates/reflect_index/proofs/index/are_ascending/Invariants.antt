use Rattle.std.proofs.Common.{◌≡◌, Less, map}
use Rattle.std.specs.List.{AllAdjacentBelow}
use Rattle.reflect_tables.specs.Index.{key_order, key_at}
use Rattle.reflect_index.proofs.index.are_ascending.Given as goal

abbrev pub invariant-loop-at : goal.invariant-loop-at
invariant-loop-at g l = let keys = map (g.T.Keyed.key_of l.by) l.items in AllAdjacentBelow (λ a b. key_order (key_at keys a) (key_at keys b) ≡ Less) l.places l.at
