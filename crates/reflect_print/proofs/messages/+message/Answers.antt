use Rattle.std.proofs.Common.{rules, arith, ◌≡◌, ◌-◌, ◌∷◌, [], List, ℕ, drop, None, Some, true, false, map, ap, ◌∙◌, refl, subst, string_bytes}
use Rattle.reflect_contents.specs.Walked.{field_lent, fields_left, of_message, set_fields_of}
use Rattle.text_lines.specs.declared.place.Place.{Place}
use Rattle.text_lines.specs.declared.options.FormatOptions.{FormatOptions}
use Rattle.text_lines.specs.Pieces.{before_element, quoted}
use Rattle.text_lines.proofs.Appending.{adds_both, one_text, one_as, one_on, one_before}
use Rattle.reflect_message.specs.Lists.{list_items}
use Rattle.reflect_message.specs.Names.{Value}
use Rattle.reflect_message.specs.declared.value.ValueOf.{the_lemmas}
use Rattle.reflect_scalar.specs.declared.map_key.MapKey.{MapKey}
use Rattle.reflect_pool.specs.FieldsLeft.{field_type}
use Rattle.reflect_scalar.specs.Singles.{truth, int32, int64, uint32, uint64, text, blob, enumerated}
use Rattle.reflect_wire.specs.Views.{field_view}
use Rattle.reflect_scalar.specs.FieldTypes.{field_pool}
use Rattle.print_parts.specs.Entries.{Entry, AreChosen, AreOthers, field, undeclared}
use Rattle.reflect_print.specs.Named.{kind_given, kind_held}
use Rattle.reflect_print.specs.MessageTexts.{IsBracedText, IsEntryText, IsListText, IsMapText, IsPairText, IsValueText, no_values, more_values, no_pairs, more_pairs, single_text, message_text, record_text}
use Rattle.print_parts.specs.Parts.{declared_entry, other_entry}
use Rattle.reflect_print.specs.Written.{IsExpansion}
use Rattle.reflect_print.proofs.Loops.{begun, next_one, all_of, drop_end, drop_item}
use Rattle.reflect_print.proofs.NamedKinds.{given_held, kind_named}
use Rattle.reflect_print.proofs.Parts.{named_parts, under_parts, field_parts, extension_parts, list_value, map_value, pair_parts, braced_parts, url_named, answer_as, items_expanded, items_listed}
use Rattle.reflect_print.proofs.Spans.{given_entry, given_all, span_begun, span_more, span_whole, both_spans, entry_as, pair_as}
use Rattle.reflect_print.proofs.messages.+message.Goals as goal

pub braced_message-returns-clause-text : goal.braced_message-returns-clause-text
braced_message-returns-clause-text t c =
    let old = string_bytes c.args.lines.now.output in
    let written = c.in_ok-any.ensures.text in
    one_before _ _ old _ _ _
    (braced_parts _ _ _ c.args.at c.in_ok-inner.inner _ _ _ c.in_ok-put.ensures.form (c.in_ok-any.ensures.form ∙ c.in_ok-put.ensures.form) c.in_ok-inner.ensures.place written.1)
    (adds_both old _ _ _ c.in_ok-put.ensures.text written.2) c.close.ensures.text

pub chosen_fields-each-init : goal.chosen_fields-each-init
chosen_fields-each-init t c =
    span_begun _ _ _ _ _ _ _ _ _ _ refl refl refl

pub chosen_fields-each-preserved : goal.chosen_fields-each-preserved
chosen_fields-each-preserved t c =
    let entry = c.entry-item.result in
    let step = drop_item c.deref-entry-items.result.now c.each.entry-index entry (search (rules, c.each-test.true)) c.entry-item.is in
    span_more _ _ _ _ _ _ _ _ _ _ _ _ _ _ _ (declared_entry entry) _ _
    c.in_ok-next_item.ensures.items c.in_ok-next_item.ensures.form c.in_ok-field_text.ensures.form (ap (map declared_entry) step) c.each.invariant c.in_ok-next_item.ensures.text
    (entry_as _ _ _ _ _ _ _ _ (ap (field (field_pool entry.field) (field_type entry.field)) c.value.ensures) c.in_ok-field_text.ensures.text)

pub chosen_fields-returns-clause-text : goal.chosen_fields-returns-clause-text
chosen_fields-returns-clause-text t c =
    let xs = c.deref-entry-items.result.now in
    let items : c.in_ok-fields.fields.items ≡ xs = search rules in
    let none : drop c.each.entry-index xs ≡ [] = drop_end xs c.each.entry-index (omega (arith, c.each-test.false)) in
    span_whole _ _ _ _ _ _ _ _ _ _ _ _ (ap (map declared_entry) none) (subst (λ ys. AreChosen c.args.lines.now.options c.args.message.now (map declared_entry ys)) items c.in_ok-fields.ensures) c.each.invariant

pub entries-returns-clause-text : goal.entries-returns-clause-text
entries-returns-clause-text t c = both_spans _ _ _ _ _ _ _ _ _ _ _ _ _ c.new-items.ensures c.in_ok-declared.ensures.form c.in_ok-declared.ensures.text c.in_ok-others.ensures.text

pub entry_value-returns-clause-text : goal.entry_value-returns-clause-text
entry_value-returns-clause-text t c =
    let old = string_bytes c.args.lines.now.output in
    one_on _ _ _ old _ _ (under_parts _ _ _ _ _ _ _ _ _ _ refl (c.in_ok-put.ensures.form ∙ c.in_ok-next_item.ensures.form) (ap (λ i. i.in_braces) c.requires) (ap (λ i. i.any) c.requires))
    (adds_both old _ _ _ c.in_ok-next_item.ensures.text c.in_ok-put.ensures.text) c.named_value.ensures.text

pub expansion-returns-clause-text : goal.expansion-returns-clause-text
expansion-returns-clause-text t c =
    let old = string_bytes c.args.lines.now.output in
    let begun_at = string_bytes c.next_item.new.self.output in
    let form = c.args.lines.now.options in
    let at = c.args.at in
    let same = c.in_ok-put_bracketed.ensures.form ∙ c.in_ok-next_item.ensures.form in
    let less : c.saturating_sub.result ≡ at.expansions - 1 = search rules in
    let body = c.args.held.now.body in
    let less_left = c.saturating_sub.result in
    let outside : (f : FormatOptions) (y : List ℕ) → IsBracedText f c.read.result.payloads less_left c.read.result.indent body y → IsBracedText f at.payloads less_left at.indent body y =
    λ f y is. subst (λ (p : Place). IsBracedText f p.payloads less_left p.indent body y) c.read.ensures.place is in
    one_on _ _ _ old _ _
    (λ y is.
    url_named form _ _ _ at.payloads at.expansions less_left at.indent c.args.in_braces _ c.url.result.now body _ _ c.url.ensures refl same (c.in_ok-padding.ensures.form ∙ same) (ap (λ i. i.in_braces) c.new-items.ensures) (ap (λ i. i.any) c.new-items.ensures) less y
    (outside _ y is))
    (adds_both old _ _ _ c.in_ok-next_item.ensures.text (adds_both begun_at _ _ _ c.in_ok-put_bracketed.ensures.text c.in_ok-padding.ensures.text))
    c.braced_message.ensures.text

pub extension_text-returns-clause-text : goal.extension_text-returns-clause-text
extension_text-returns-clause-text t c =
    one_on _ _ _ _ _ _ (extension_parts _ _ _ _ _ _ _ _ _ _ c.in_ok-put_bracketed.ensures.form (kind_named _ c.kind.result _ c.kind.ensures) c.full_name.ensures) c.in_ok-put_bracketed.ensures.text c.named_value.ensures.text

pub field_text-returns-clause-text : goal.field_text-returns-clause-text
field_text-returns-clause-text t c =
    one_on _ _ _ _ _ _ (field_parts _ _ _ _ _ _ _ _ _ _ c.in_ok-put.ensures.form (kind_named _ c.kind-kind.result _ c.kind-kind.ensures) c.text_name.ensures) c.in_ok-put.ensures.text c.named_value.ensures.text

pub items-returns-in_ok-expansion-in-Some-clause-text : goal.items-returns-in_ok-expansion-in-Some-clause-text
items-returns-in_ok-expansion-in-Some-clause-text t c =
    let may : IsExpansion c.args.lines.now.options c.args.at.expansions c.args.message.now (Some c.in-Some.held) = search rules in
    let w = c.in_ok-expansion-in-Some.ensures.text in
    (w.0, items_expanded _ _ _ _ _ _ _ _ may.0 may.1 _ w.1, w.2)

pub items-returns-in-None-clause-text : goal.items-returns-in-None-clause-text
items-returns-in-None-clause-text t c =
    let none : IsExpansion c.args.lines.now.options c.args.at.expansions c.args.message.now None = search rules in
    answer_as _ _ _ _ _ (items_listed _ _ _ _ _ _ none) c.entries.ensures.text

pub list-each-init : goal.list-each-init
list-each-init t c = record {
  row = begun _ _ _ _ _ _ _ _ refl refl c.in_ok-put.ensures.text;
  form = search rules;
}

pub list-each-preserved : goal.list-each-preserved
list-each-preserved t c =
    let at = c.in_ok-inner.inner in
    let kind = kind_given c.args.kind in
    let step = drop_item c.args.values.now c.each.value-index c.value-item.result (search (rules, c.each-test.true)) c.value-item.is in
    let same = c.in_ok-next_element.ensures.form ∙ c.each.invariant.form in
    record {
      row = next_one _ (λ (o : FormatOptions) (v : Value) (z : List ℕ). IsValueText o at.payloads at.expansions at.indent kind v z)
          (λ (o : FormatOptions) first. before_element o.pretty first) false c.args.lines.now.options c.args.lines.now.options
          (λ any x xs one rest i r. more_values one rest i r)
          _ _ _ _ _ _ _ _ _ _ _ _ _ _ c.each.invariant.form same c.in_ok-next_element.ensures.first step c.each.invariant.row c.in_ok-next_element.ensures.text c.in_ok-value_text.ensures.text;
      form = c.in_ok-value_text.ensures.form ∙ same;
    }

pub list-returns-clause-text : goal.list-returns-clause-text
list-returns-clause-text t c =
    let form = c.args.lines.now.options in
    let kind = kind_given c.args.kind in
    let none : drop c.each.value-index c.args.values.now ≡ [] = drop_end c.args.values.now c.each.value-index (omega (arith, c.each-test.false)) in
    let row = all_of (IsListText form c.in_ok-inner.inner.payloads c.in_ok-inner.inner.expansions c.in_ok-inner.inner.indent kind) _ _ _ _ _ _ _ none no_values c.each.invariant.row in
    let there = subst (λ (p : Place). IsListText form p.payloads p.expansions p.indent kind true c.args.values.now c.each.invariant.row.front) c.in_ok-inner.ensures.place row in
    one_before _ _ _ _ _ _ (c.each.invariant.row.front, there, refl) c.each.invariant.row.written c.put-2.ensures.text

pub map-each-init : goal.map-each-init
map-each-init t c = record {
  row = begun _ _ _ _ _ _ _ _ refl (search rules) c.in_ok-put.ensures.text;
  form = search rules;
}

pub map-each-preserved : goal.map-each-preserved
map-each-preserved t c =
    let at = c.in_ok-inner.inner in
    let kind = kind_held c.kind_of_values-kind_within.result in
    let step : c.each.key-iterator ≡ (c.in-Some.key.now, c.in-Some.value.now) ∷ c.next.new.self = search rules in
    let same = c.in_ok-next_element.ensures.form ∙ c.each.invariant.form in
    record {
      row = next_one _ (λ (o : FormatOptions) (e : MapKey × Value) (z : List ℕ). IsPairText o at.payloads at.expansions at.indent kind e z)
          (λ (o : FormatOptions) first. before_element o.pretty first) false c.args.lines.now.options c.args.lines.now.options
          (λ any x xs one rest i r. more_pairs one rest i r)
          _ _ _ _ _ _ _ _ _ _ _ _ _ _ c.each.invariant.form same c.in_ok-next_element.ensures.first step c.each.invariant.row c.in_ok-next_element.ensures.text (pair_as _ _ _ _ _ _ _ _ _ (given_held _ _ c.as_ref.ensures.value) c.in_ok-pair.ensures.text);
      form = c.in_ok-pair.ensures.form ∙ same;
    }

pub map-returns-clause-text : goal.map-returns-clause-text
map-returns-clause-text t c =
    let form = c.args.lines.now.options in
    let none : c.each.key-iterator ≡ [] = search rules in
    let row = all_of (IsMapText form c.in_ok-inner.inner.payloads c.in_ok-inner.inner.expansions c.in_ok-inner.inner.indent (kind_held c.kind_of_values-kind_within.result)) _ _ _ _ _ _ _ none no_pairs c.each.invariant.row in
    let there = subst (λ (p : Place). IsMapText form p.payloads p.expansions p.indent (kind_held c.kind_of_values-kind_within.result) true c.args.pairs.now.entries c.each.invariant.row.front) c.in_ok-inner.ensures.place row in
    let kinds = subst (λ k. IsMapText form c.args.at.payloads c.args.at.expansions c.args.at.indent k true c.args.pairs.now.entries c.each.invariant.row.front) c.kind_of_values-kind_within.ensures there in
    one_before _ _ _ _ _ _ (c.each.invariant.row.front, kinds, refl) c.each.invariant.row.written c.put-2.ensures.text

pub named_value-returns-clause-text : goal.named_value-returns-clause-text
named_value-returns-clause-text t c = one_on _ _ _ _ _ _ (named_parts _ _ _ _ _ _ _ c.in_ok-put_before.ensures.form) c.in_ok-put_before.ensures.text c.value_text.ensures.text

pub other_text-returns-in-Unknown-clause-text : goal.other_text-returns-in-Unknown-clause-text
other_text-returns-in-Unknown-clause-text t c =
    let same : undeclared (field_view c.in-Unknown.«record».now) ≡ other_entry c.args.other.now = search rules in
    one_as _ _ _ _ _ (λ y i. subst (λ e. IsEntryText c.args.lines.now.options c.args.at.payloads c.args.at.expansions c.args.at.indent e y) same (record_text i)) c.unknown_field.ensures.text

pub others-each-init : goal.others-each-init
others-each-init t c =
    span_begun _ _ _ _ _ _ _ _ _ _ refl refl refl

pub others-each-preserved : goal.others-each-preserved
others-each-preserved t c =
    let step = drop_item c.deref-other-items.result.now c.each.other-index c.other-item.result (search (rules, c.each-test.true)) c.other-item.is in
    span_more _ _ _ _ _ _ _ _ _ _ _ _ _ _ _ (other_entry c.other-item.result) _ _
    c.in_ok-next_item.ensures.items c.in_ok-next_item.ensures.form c.in_ok-other_text.ensures.form (ap (map other_entry) step) c.each.invariant c.in_ok-next_item.ensures.text c.in_ok-other_text.ensures.text

pub others-returns-clause-text : goal.others-returns-clause-text
others-returns-clause-text t c =
    let xs = c.deref-other-items.result.now in
    let items : c.in_ok-entries.entries.items ≡ xs = search rules in
    let none : drop c.each.other-index xs ≡ [] = drop_end xs c.each.other-index (omega (arith, c.each-test.false)) in
    span_whole _ _ _ _ _ _ _ _ _ _ _ _ (ap (map other_entry) none) (subst (λ ys. AreOthers c.args.lines.now.options c.args.message.now (map other_entry ys)) items c.in_ok-entries.ensures) c.each.invariant

pub pair-returns-clause-text : goal.pair-returns-clause-text
pair-returns-clause-text t c =
    let old = string_bytes c.args.lines.now.output in
    let begun_at = string_bytes c.put.new.self.output in
    let key = c.in_ok-entry_key.ensures.text in
    let value = c.in_ok-entry_value.ensures.text in
    let same = c.in_ok-entry_key.ensures.form ∙ c.in_ok-put.ensures.form in
    one_before _ _ old _ _ _
    (pair_parts _ _ _ _ c.args.at c.in_ok-inner.inner _ _ _ _ _ c.in_ok-put.ensures.form same (c.in_ok-entry_value.ensures.form ∙ same) c.in_ok-inner.ensures.place key.1 value.1)
    (adds_both old _ _ _ c.in_ok-put.ensures.text (adds_both begun_at _ _ _ key.2 value.2)) c.close.ensures.text

pub set_fields-each-init : goal.set_fields-each-init
set_fields-each-init t c =
    let all : fields_left c.into_iter-field-iterator.result ≡ of_message c.args.message.now.descriptor (set_fields_of c.args.message.now) = search rules in
    span_begun _ _ _ _ _ _ _ _ _ _ refl refl (ap (map given_entry) all ∙ given_all c.args.message.now _)

pub set_fields-each-preserved : goal.set_fields-each-preserved
set_fields-each-preserved t c =
    let f = c.in-Some.field in
    let v = c.in-Some.value in
    let step : fields_left c.each.field-iterator ≡ field_lent (f, v) ∷ fields_left c.next.new.self = search rules in
    let e : Entry = field (field_pool f) (field_type f) v.now in
    span_more _ _ _ _ _ _ _ _ _ _ _ _ _ _ _ e _ _
    c.in_ok-next_item.ensures.items c.in_ok-next_item.ensures.form c.in_ok-field_text.ensures.form (ap (map given_entry) step) c.each.invariant c.in_ok-next_item.ensures.text c.in_ok-field_text.ensures.text

pub set_fields-returns-clause-text : goal.set_fields-returns-clause-text
set_fields-returns-clause-text t c =
    let none : fields_left c.each.field-iterator ≡ [] = search rules in
    span_whole _ _ _ _ _ _ _ _ _ _ _ _ (ap (map given_entry) none) refl c.each.invariant

pub value_text-returns-in-Bool-clause-text : goal.value_text-returns-in-Bool-clause-text
value_text-returns-in-Bool-clause-text t c = one_text _ _ _ _ _ (single_text (truth c.in-Bool.truth) (search (rules, the_lemmas)) refl) c.put_shown.ensures.text

pub value_text-returns-in-I32-clause-text : goal.value_text-returns-in-I32-clause-text
value_text-returns-in-I32-clause-text t c = one_text _ _ _ _ _ (single_text (int32 c.in-I32.number) (search (rules, the_lemmas)) refl) c.put_shown-in-I32.ensures.text

pub value_text-returns-in-I64-clause-text : goal.value_text-returns-in-I64-clause-text
value_text-returns-in-I64-clause-text t c = one_text _ _ _ _ _ (single_text (int64 c.in-I64.number) (search (rules, the_lemmas)) refl) c.put_shown-in-I64.ensures.text

pub value_text-returns-in-U32-clause-text : goal.value_text-returns-in-U32-clause-text
value_text-returns-in-U32-clause-text t c = one_text _ _ _ _ _ (single_text (uint32 c.in-U32.number) (search (rules, the_lemmas)) refl) c.put_shown-in-U32.ensures.text

pub value_text-returns-in-U64-clause-text : goal.value_text-returns-in-U64-clause-text
value_text-returns-in-U64-clause-text t c = one_text _ _ _ _ _ (single_text (uint64 c.in-U64.number) (search (rules, the_lemmas)) refl) c.put_shown-in-U64.ensures.text

pub value_text-returns-in-EnumNumber-clause-text : goal.value_text-returns-in-EnumNumber-clause-text
value_text-returns-in-EnumNumber-clause-text t c = one_as _ _ _ _ _ (λ y i. single_text (enumerated c.in-EnumNumber.number) (search (rules, the_lemmas)) i) c.enum_text.ensures.text

pub value_text-returns-in-String-clause-text : goal.value_text-returns-in-String-clause-text
value_text-returns-in-String-clause-text t c =
    let same : c.as_bytes.result.now ≡ string_bytes c.in-String.text = search rules in
    one_text _ _ _ _ _ (single_text (text (string_bytes c.in-String.text)) (search (rules, the_lemmas)) (ap quoted same)) c.string.ensures.text

pub value_text-returns-in-Bytes-clause-text : goal.value_text-returns-in-Bytes-clause-text
value_text-returns-in-Bytes-clause-text t c =
    let same : c.as_slice.result.now ≡ c.in-Bytes.bytes.items = search rules in
    one_text _ _ _ _ _ (single_text (blob c.in-Bytes.bytes.items) (search (rules, the_lemmas)) (ap quoted same)) c.string-in-Bytes.ensures.text

pub value_text-returns-in-Message-clause-text : goal.value_text-returns-in-Message-clause-text
value_text-returns-in-Message-clause-text t c = one_as _ _ _ _ _ (λ y i. message_text c.in-Message.message (search (rules, the_lemmas)) i) c.braced_message.ensures.text

pub value_text-returns-in-List-clause-text : goal.value_text-returns-in-List-clause-text
value_text-returns-in-List-clause-text t c =
    let same : c.in-List.values.items ≡ c.as_slice-in-List.result.now = search rules in
    let is : list_items c.args.value.now ≡ Some c.in-List.values.items = search (rules, the_lemmas) in
    one_as _ _ _ _ _ (list_value _ _ _ _ _ c.args.value.now c.as_slice-in-List.result.now (is ∙ ap (λ (vs : List Value). Some vs) same)) c.list.ensures.text

pub value_text-returns-in-Map-clause-text : goal.value_text-returns-in-Map-clause-text
value_text-returns-in-Map-clause-text t c = one_as _ _ _ _ _ (map_value _ _ _ _ _ c.args.value.now c.in-Map.pairs.entries (search (rules, the_lemmas))) c.map.ensures.text
