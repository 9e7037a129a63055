-- The records of numbers that a message's type does not declare.
use Rattle.std.specs.Prelude.{ℕ, List}
use Rattle.reflect_wire.specs.Records.{Payload}
use Rattle.reflect_entries.specs.Sets.{records_in}
use Rattle.reflect_entries.specs.declared.unknown_records.UnknownRecords.{UnknownRecords}

-- all records, by ascending number
abbrev pub undeclared : UnknownRecords → List (ℕ × Payload)
undeclared u = records_in u.sets.entries
