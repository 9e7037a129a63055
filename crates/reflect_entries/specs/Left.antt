-- What is left of records that are lent or written one by one.
use Rattle.std.specs.Prelude.{ℕ, List, ◌++◌, map}
use Rattle.std.specs.Slice.Iter.{iter_rest}
use Rattle.reflect_wire.specs.Records.{Payload}
use Rattle.reflect_wire.specs.Views.{field_view}
use Rattle.reflect_entries.specs.Descends.{sets_left}
use Rattle.reflect_entries.specs.Sets.{records_in}
use Rattle.reflect_entries.specs.declared.unknown_records.Descent.{Descent}
use Rattle.reflect_entries.specs.declared.unknown_records.UnknownFields.{UnknownFields}

-- the records that an iterator has not lent yet
abbrev pub unread : UnknownFields → List (ℕ × Payload)
unread i = map field_view (iter_rest i.current) ++ records_in i.sets

-- the records that are not written yet, by ascending number
abbrev pub unwritten : Descent → List (ℕ × Payload)
unwritten d = records_in (sets_left d.rest d.ahead)
