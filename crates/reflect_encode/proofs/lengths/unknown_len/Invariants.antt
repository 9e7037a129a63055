use Rattle.std.proofs.Common.{◌≡◌, ◌+◌, ◌<◌, ◌^◌, length}
use Rattle.reflect_entries.specs.Left.{unread}
use Rattle.reflect_entries.specs.Sets.{above}
use Rattle.reflect_entries.specs.Undeclared.{undeclared}
use Rattle.reflect_wire.specs.Encoding.{records_bytes}
use Rattle.reflect_wire.specs.Views.{records_of}
use Rattle.reflect_encode.proofs.lengths.unknown_len.Given as goal

-- the length that is counted and that of what is left are the whole
abbrev pub invariant-records : goal.invariant-records
invariant-records l = record {
  counted : l.len + length (records_bytes (records_of (above 0 (unread l.record-iterator)))) ≡ length (records_bytes (records_of (above 0 (undeclared l.records))));
  small : l.len < 2 ^ 64;
}
