use Rattle.std.proofs.Common.{rules, ◌≡◌, ◌++◌, ℕ, List, suc, sym, ap, ◌∙◌, subst}
use Rattle.reflect_wire.specs.Records.{group}
use Rattle.reflect_wire.specs.Views.{field_view, records_view, set_view}
use Rattle.text_lines.specs.Pieces.{colon, quoted}
use Rattle.text_lines.specs.UnknownTexts.{Infers, IsPayloadText, IsValueText}
use Rattle.text_lines.specs.declared.place.Place.{Place}
use Rattle.text_lines.proofs.Appending.{one_text, one_on, one_as, one_before}
use Rattle.text_lines.proofs.Rows.{none_written, next_written, all_written, group_text, payload_text, record_text, value_text}
use Rattle.text_lines.proofs.lines.Lines.+unknown.Goals as goal

pub braced_records-loop-record-init : goal.braced_records-loop-record-init
braced_records-loop-record-init t c = record {
  next = search rules;
  finite = search rules;
  front = none_written _ _ _ _ _ _ _ _ (ap (λ i. i.any) c.new-items.ensures) (c.iter-record-items.ensures.view ∙ ap (λ it. records_view it.rest.now) (sym c.into_iter-record-iterator.ensures.into_iter_gives)) c.in_ok-put.ensures;
  form = search rules;
  braces = search rules;
}

pub braced_records-loop-record-preserved : goal.braced_records-loop-record-preserved
braced_records-loop-record-preserved t c = record {
  next = search rules;
  finite = search rules;
  front = next_written _ _ _ _ _ _ _ _ _ _ _ _ _ _ _ _ _ _
      (ap (λ o. o.pretty) c.loop-record.invariant.form)
      (ap (λ o. o.pretty) (c.in_ok-next_item.ensures.form ∙ c.loop-record.invariant.form))
      (ap (λ p. p.payloads) c.in_ok-inner.ensures.place)
      (ap (λ p. p.indent) c.in_ok-inner.ensures.place)
      c.loop-record.invariant.braces
      (ap (λ i. i.any) c.in_ok-next_item.ensures.items)
      (search rules)
      c.loop-record.invariant.front c.in_ok-next_item.ensures.text c.in_ok-unknown_field.ensures.text;
  form = search rules;
  braces = search rules;
}

pub braced_records-returns-clause-text : goal.braced_records-returns-clause-text
braced_records-returns-clause-text t c =
    one_before _ _ _ _ _ _ (all_written _ _ _ _ _ _ _ _ _ (ap (λ o. o.pretty) c.loop-record.invariant.form) (search rules) c.loop-record.invariant.front) c.loop-record.invariant.front.written c.close.ensures.text

pub group-returns-clause-text : goal.group-returns-clause-text
group-returns-clause-text t c =
    one_on _ _ _ _ _ _ (group_text _ _ _ _ _ (ap (λ o. o.pretty) c.in_ok-padding.ensures.form)) c.in_ok-padding.ensures.text c.braced_records.ensures.text

pub payload-returns-in-Some-2-clause-text : goal.payload-returns-in-Some-2-clause-text
payload-returns-in-Some-2-clause-text t c =
    let inside = c.read.ensures.place in
    let pretty = c.args.self.now.options.pretty in
    let one_less : c.args.at.payloads ≡ suc c.in-Some.payloads = search rules in
    one_as _ _ _ _ _
    (λ y i.
    payload_text pretty c.in-Some.payloads c.args.at.payloads c.args.at.indent _ _ one_less (subst (Infers c.args.payload.now) c.in-Some-2.is c.in_ok-records.ensures) y
    (subst (λ (p : Place). IsValueText pretty (IsPayloadText c.in-Some.payloads pretty) p.indent (group (set_view c.in-Some-2.records)) y) inside i))
    c.group.ensures.text

pub payload-returns-clause-text : goal.payload-returns-clause-text
payload-returns-clause-text t c =
    let pretty = c.args.self.now.options.pretty in
    let bytes = c.args.payload.now in
    let text : List ℕ = colon pretty ++ quoted bytes in
    let is : IsPayloadText c.args.at.payloads pretty c.args.at.indent bytes text = search rules in
    one_text _ _ _ _ _ is c.bytes.ensures.text

pub unknown_field-returns-clause-text : goal.unknown_field-returns-clause-text
unknown_field-returns-clause-text t c =
    one_on _ _ _ _ _ _ (λ y i. record_text _ _ _ _ (field_view c.args.«record».now) c.number.ensures y (value_text _ _ _ _ _ c.value.ensures y i)) c.in_ok-put_shown.ensures c.unknown_value.ensures.text
