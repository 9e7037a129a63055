use Rattle.std.proofs.Common.{ℕ, ◌<◌, map}
use Rattle.reflect_tables.specs.Index.{IsListed}
use Rattle.reflect_index.proofs.index.are_listed.Given as goal

abbrev pub invariant-loop-place : goal.invariant-loop-place
invariant-loop-place g l = (place : ℕ) → place < l.place → IsListed (map (g.T.Keyed.key_of l.by) l.items) l.places place
