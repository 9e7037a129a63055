-- What walks over what a message holds have ahead of them.
use Rattle.std.specs.Prelude.{ℕ, List, [], Option, None, Some}
use Rattle.reflect_entries.specs.Ahead.{entries_left}
use Rattle.reflect_entries.specs.declared.entries.Iter.{Iter}

-- the numbers and the values that are left, none where there is nothing to walk over
abbrev pub walked_left : {V : Type 0} → Option (Iter V) → List (ℕ × V)
walked_left None = []
walked_left (Some i) = entries_left i
