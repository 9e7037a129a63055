use Rattle.std.proofs.Common.{◌≡◌, ◌+◌, ◌*◌, ◌∷◌, [], drop, true, map, string_bytes}
use Rattle.reflect_contents.specs.Walked.{fields_left}
use Rattle.text_lines.proofs.Fronts.{IsFront}
use Rattle.print_parts.specs.Entries.{set_entries}
use Rattle.reflect_print.specs.MessageTexts.{IsListText, IsMapText}
use Rattle.reflect_print.specs.Named.{kind_given, kind_held}
use Rattle.print_parts.specs.Parts.{declared_entry, other_entry}
use Rattle.reflect_print.proofs.Spans.{IsSpanFront, given_entry}
use Rattle.reflect_print.proofs.messages.+message.Given as goal

abbrev pub decreases-braced_message : goal.decreases-braced_message
decreases-braced_message l = 16 * l.at.levels

abbrev pub decreases-items : goal.decreases-items
decreases-items l = 16 * l.at.levels + 12

abbrev pub decreases-entries : goal.decreases-entries
decreases-entries l = 16 * l.at.levels + 11

abbrev pub decreases-expansion : goal.decreases-expansion
decreases-expansion l = 16 * l.at.levels + 11

abbrev pub decreases-declared : goal.decreases-declared
decreases-declared l = 16 * l.at.levels + 10

abbrev pub decreases-others : goal.decreases-others
decreases-others l = 16 * l.at.levels + 10

abbrev pub decreases-set_fields : goal.decreases-set_fields
decreases-set_fields l = 16 * l.at.levels + 9

abbrev pub decreases-chosen_fields : goal.decreases-chosen_fields
decreases-chosen_fields l = 16 * l.at.levels + 9

abbrev pub decreases-other_text : goal.decreases-other_text
decreases-other_text l = 16 * l.at.levels + 9

abbrev pub decreases-field_text : goal.decreases-field_text
decreases-field_text l = 16 * l.at.levels + 8

abbrev pub decreases-extension_text : goal.decreases-extension_text
decreases-extension_text l = 16 * l.at.levels + 8

abbrev pub decreases-entry_value : goal.decreases-entry_value
decreases-entry_value l = 16 * l.at.levels + 8

abbrev pub decreases-named_value : goal.decreases-named_value
decreases-named_value l = 16 * l.at.levels + 7

abbrev pub decreases-value_text : goal.decreases-value_text
decreases-value_text l = 16 * l.at.levels + 6

abbrev pub decreases-list : goal.decreases-list
decreases-list l = 16 * l.at.levels + 5

abbrev pub decreases-map : goal.decreases-map
decreases-map l = 16 * l.at.levels + 5

abbrev pub decreases-pair : goal.decreases-pair
decreases-pair l = 16 * l.at.levels + 4

abbrev pub invariant-set_fields-each : goal.invariant-set_fields-each
invariant-set_fields-each l =
    IsSpanFront l.fn.lines.options l.fn.at.payloads l.fn.at.expansions l.fn.at.indent
    (string_bytes l.fn.lines.output) l.fn.items (set_entries l.fn.message)
    (string_bytes l.lines.output) l.items l.lines.options (map given_entry (fields_left l.field-iterator))

abbrev pub invariant-chosen_fields-each : goal.invariant-chosen_fields-each
invariant-chosen_fields-each l =
    IsSpanFront l.fn.lines.options l.fn.at.payloads l.fn.at.expansions l.fn.at.indent
    (string_bytes l.fn.lines.output) l.fn.items (map declared_entry l.entry-items)
    (string_bytes l.lines.output) l.items l.lines.options (map declared_entry (drop l.entry-index l.entry-items))

abbrev pub invariant-others-each : goal.invariant-others-each
invariant-others-each l =
    IsSpanFront l.fn.lines.options l.fn.at.payloads l.fn.at.expansions l.fn.at.indent
    (string_bytes l.fn.lines.output) l.fn.items (map other_entry l.other-items)
    (string_bytes l.lines.output) l.items l.lines.options (map other_entry (drop l.other-index l.other-items))

abbrev pub invariant-list-each : goal.invariant-list-each
invariant-list-each l = record {
  row : IsFront (IsListText l.fn.lines.options l.inner.payloads l.inner.expansions l.inner.indent (kind_given l.fn.kind))
      (string_bytes l.fn.lines.output) (91 ∷ []) true l.values (string_bytes l.lines.output) l.is_first (drop l.value-index l.values);
  form : l.lines.options ≡ l.fn.lines.options;
}

abbrev pub invariant-map-each : goal.invariant-map-each
invariant-map-each l = record {
  row : IsFront (IsMapText l.fn.lines.options l.inner.payloads l.inner.expansions l.inner.indent (kind_held l.kind_within))
      (string_bytes l.fn.lines.output) (91 ∷ []) true l.fn.pairs.entries (string_bytes l.lines.output) l.is_first l.key-iterator;
  form : l.lines.options ≡ l.fn.lines.options;
}
