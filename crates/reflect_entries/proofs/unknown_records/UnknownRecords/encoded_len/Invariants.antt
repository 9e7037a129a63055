-- The length that is counted and that of what is left are the whole.
use Rattle.std.proofs.Common.{◌≡◌, ◌+◌, ◌<◌, ◌^◌, length}
use Rattle.reflect_wire.specs.Encoding.{records_bytes}
use Rattle.reflect_wire.specs.Views.{records_of}
use Rattle.reflect_entries.specs.Sets.{records_in}
use Rattle.reflect_entries.specs.Undeclared.{undeclared}
use Rattle.reflect_entries.proofs.unknown_records.UnknownRecords.encoded_len.Given as goal

abbrev pub invariant-loop-number : goal.invariant-loop-number
invariant-loop-number l = record {
  counted : l.len + length (records_bytes (records_of (records_in l._number-iterator))) ≡ length (records_bytes (records_of (undeclared l.initial.self)));
  small : l.len < 2 ^ 64;
}
