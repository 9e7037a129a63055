use Rattle.std.proofs.Common.{◌≡◌, ◌+◌, ◌*◌, true, string_bytes}
use Rattle.reflect_wire.specs.Views.{set_view, records_view}
use Rattle.text_lines.specs.UnknownTexts.{IsPayloadText}
use Rattle.text_lines.proofs.Rows.{IsFront}
use Rattle.text_lines.proofs.lines.Lines.+unknown.Given as goal

abbrev pub decreases-braced_records : goal.decreases-braced_records
decreases-braced_records l = 5 * l.at.levels

abbrev pub decreases-group : goal.decreases-group
decreases-group l = 5 * l.at.levels + 1

abbrev pub decreases-payload : goal.decreases-payload
decreases-payload l = 5 * l.at.levels + 2

abbrev pub decreases-unknown_value : goal.decreases-unknown_value
decreases-unknown_value l = 5 * l.at.levels + 3

abbrev pub decreases-unknown_field : goal.decreases-unknown_field
decreases-unknown_field l = 5 * l.at.levels + 4

abbrev pub invariant-braced_records-loop-record : goal.invariant-braced_records-loop-record
invariant-braced_records-loop-record l = record {
  next : goal.iterator-braced_records-loop-record.can_next l.record-iterator;
  finite : goal.iterator-braced_records-loop-record.is_finite l.record-iterator;
  front : IsFront (string_bytes l.fn.self.output) l.fn.self.options.pretty
      (IsPayloadText l.fn.at.payloads l.fn.self.options.pretty) (l.fn.at.indent + 2)
      (set_view l.fn.records) (string_bytes l.self.output) l.items.any
      (records_view l.record-iterator.rest.now);
  form : l.self.options ≡ l.fn.self.options;
  braces : l.items.in_braces ≡ true;
}
