-- What walks over messages have ahead of them.
use Rattle.std.specs.Prelude.{ℕ, List, [], None, Some}
use Rattle.reflect_wire.specs.Records.{Payload}
use Rattle.reflect_entries.specs.Left.{unread}
use Rattle.reflect_contents.specs.declared.walks.UnknownFields.{UnknownFields}

-- the records of undeclared numbers that are left, by ascending number
abbrev pub records_left : UnknownFields → List (ℕ × Payload)
records_left s = elim s.records [ None ↦ [] | Some r ↦ unread r ]
