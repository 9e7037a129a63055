-- What is noted of oneofs.
use Rattle.std.specs.Prelude.{ℕ, Option}
use Rattle.reflect_entries.specs.Entries.{value_at}
use Rattle.reflect_entries.specs.declared.choices.Choices.{Choices}

-- the member that was set last, of the oneof whose first member has the number
abbrev pub choice : Choices → ℕ → Option ℕ
choice c first = value_at c.members first
