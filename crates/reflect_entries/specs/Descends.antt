-- Sets that are left to be taken from the last to the first, of which the last is ahead.
use Rattle.std.specs.Prelude.{◌≡◌, ℕ, List, [], ◌∷◌, ◌++◌, Option, Some, None}
use Rattle.std.specs.Borrow.{Bor}
use Rattle.std.specs.List.Sorted.{IsStrictlySortedBy}
use Rattle.std.specs.Map.{keys_of}
use Rattle.std.specs.Ordering.{nat_cmp}
use Rattle.reflect_wire.specs.declared.unknown.UnknownFieldSet.{UnknownFieldSet}
use Rattle.reflect_entries.specs.Sets.{AreGrouped}

-- the set that is ahead, if one is
abbrev pub ahead_of : Option (Bor ℕ × Bor UnknownFieldSet) → List (ℕ × UnknownFieldSet)
ahead_of None = []
ahead_of (Some e) = (e.0.now, e.1.now) ∷ []

abbrev pub sets_left : List (ℕ × UnknownFieldSet) → Option (Bor ℕ × Bor UnknownFieldSet)
    → List (ℕ × UnknownFieldSet)
sets_left rest ahead = rest ++ ahead_of ahead

-- their numbers ascend, and none is left where none is ahead
pub record IsDescent (rest : List (ℕ × UnknownFieldSet))
    (ahead : Option (Bor ℕ × Bor UnknownFieldSet)) : Type 0 where
  pub ascending : IsStrictlySortedBy nat_cmp (keys_of (sets_left rest ahead))
  pub grouped : AreGrouped (sets_left rest ahead)
  pub whole : ahead ≡ None → rest ≡ []
