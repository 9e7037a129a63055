use Rattle.std.proofs.Common.{◌≡◌, ℤ, List, ◌++◌, length}
use Rattle.reflect_wire.specs.Reads.{Fronts}
use Rattle.reflect_codec.specs.Reading.{SpellsNumbers}
use Rattle.reflect_codec.proofs.fields.with_packed.Given as goal

abbrev pub invariant-loop-left : goal.invariant-loop-left
invariant-loop-left l = (done : List ℤ) × (l.list.items ≡ l.initial.list.items ++ done) × Fronts SpellsNumbers l.initial.left done l.left
    × ((zs : List ℤ) → SpellsNumbers l.initial.left zs → (ys : List ℤ) × SpellsNumbers l.left ys)

abbrev pub decreases-loop-left : goal.decreases-loop-left
decreases-loop-left l = length l.left
