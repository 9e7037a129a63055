-- What iterators over entries have ahead.
use Rattle.std.specs.Prelude.{ℕ, List}
use Rattle.std.specs.Borrow.{Bor}
use Rattle.std.specs.List.{zip}
use Rattle.std.specs.Slice.Iter.{iter_rest}
use Rattle.std.specs.Vec.Iter.{into_iter_items}
use Rattle.reflect_entries.specs.declared.entries.Iter.{Iter}
use Rattle.reflect_entries.specs.declared.entries.IntoIter.{IntoIter}

abbrev pub entries_left : {V : Type 0} → Iter V → List (ℕ × V)
entries_left i = zip (iter_rest i.numbers) (iter_rest i.values)

abbrev pub lent : {V : Type 0} → ℕ × Bor V → ℕ × V
lent p = (p.0, p.1.now)

abbrev pub taken : {V : Type 0} → IntoIter V → List (ℕ × V)
taken i = zip (into_iter_items i.numbers) (into_iter_items i.values)
