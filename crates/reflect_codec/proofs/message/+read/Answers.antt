use Rattle.std.proofs.lemmas.Result.{err_from_is_err_and}
use Rattle.descriptor_records.specs.declared.message.DescriptorProto.TheViews.{out-DescriptorProto}
use Rattle.std.proofs.Common.{◌≡◌, inl, inr, refl, ◌+◌, ◌-◌, Vec, Global, ap, take, sym, subst, ◌∙◌, rules, to_z, of_z, w32}
use Rattle.std.specs.Prelude.{unsigned_abs}
use Rattle.std.specs.List.{AllZip}
use Rattle.reflect_codec.specs.Faults.{InLevel, MessageFault}
use Rattle.reflect_codec.specs.Meaning.{IsMessage, IsLevel}
use Rattle.reflect_codec.specs.Raw.{value_view, fields_view}
use Rattle.reflect_codec.specs.Reading.{ReadsMeant, values_at}
use Rattle.reflect_codec.proofs.Levels.{IsOpened, OpenedFault, message_opens, message_closes, fault_closes, level_rolls}
use Rattle.reflect_codec.proofs.Parts.{payload_fields, whole_read, takes_as}
use Rattle.reflect_codec.proofs.Values.{rejects, rejects_at, each_hit, each_miss, blank}
use Rattle.reflect_codec.proofs.message.+read.Goals as goal
use Rattle.reflect_codec.proofs.message.+read.Goals.{message_types-then-field-wanted+in_ok-message_type+in_ok-push, message_types-else-field-wanted}

pub message_from_fields-returns-in_err-last : goal.message_from_fields-returns-in_err-last
message_from_fields-returns-in_err-last t c =
    let p = err_from_is_err_and c.from_residual.result c.from_residual.ensures.1 in
    rw (p.1, p.2) (rejects (λ r m. ((out-DescriptorProto r).name, m.name)) (λ fault. record { why = inl (1, refl, fault) }) c.in_err-last.ensures)

pub message_from_fields-returns-in_err-list : goal.message_from_fields-returns-in_err-list
message_from_fields-returns-in_err-list t c =
    let p = err_from_is_err_and c.from_residual-in_err-list.result c.from_residual-in_err-list.ensures.1 in
    rw (p.1, p.2) (rejects (λ r m. ((out-DescriptorProto r).field, m.field)) (λ fault. record { why = inr (inl (2, refl, fault)) }) c.in_err-list.ensures)

pub message_from_fields-returns-in_err-list-2 : goal.message_from_fields-returns-in_err-list-2
message_from_fields-returns-in_err-list-2 t c =
    let p = err_from_is_err_and c.from_residual-in_err-list-2.result c.from_residual-in_err-list-2.ensures.1 in
    rw (p.1, p.2) (rejects (λ r m. ((out-DescriptorProto r).extension, m.extension)) (λ fault. record { why = inr (inl (6, refl, fault)) }) c.in_err-list-2.ensures)

pub message_from_fields-returns-in_err-message_types : goal.message_from_fields-returns-in_err-message_types
message_from_fields-returns-in_err-message_types t c =
    let p = err_from_is_err_and c.from_residual-in_err-message_types.result c.from_residual-in_err-message_types.ensures.1 in
    rw (p.1, p.2) (rejects (λ r m. ((out-DescriptorProto r).nested_type, m.nested_type)) (λ fault. record { why = inr (inr (inl (3, refl, fault))) }) c.in_err-message_types.ensures)

pub message_from_fields-returns-in_err-list-3 : goal.message_from_fields-returns-in_err-list-3
message_from_fields-returns-in_err-list-3 t c =
    let p = err_from_is_err_and c.from_residual-in_err-list-3.result c.from_residual-in_err-list-3.ensures.1 in
    rw (p.1, p.2) (rejects (λ r m. ((out-DescriptorProto r).enum_type, m.enum_type)) (λ fault. record { why = inr (inr (inr (inl (4, refl, fault)))) }) c.in_err-list-3.ensures)

pub message_from_fields-returns-in_err-list-4 : goal.message_from_fields-returns-in_err-list-4
message_from_fields-returns-in_err-list-4 t c =
    let p = err_from_is_err_and c.from_residual-in_err-list-4.result c.from_residual-in_err-list-4.ensures.1 in
    rw (p.1, p.2) (rejects (λ r m. ((out-DescriptorProto r).extension_range, m.extension_range)) (λ fault. record { why = inr (inr (inr (inr (inl (5, refl, fault))))) }) c.in_err-list-4.ensures)

pub message_from_fields-returns-in_err-list-5 : goal.message_from_fields-returns-in_err-list-5
message_from_fields-returns-in_err-list-5 t c =
    let p = err_from_is_err_and c.from_residual-in_err-list-5.result c.from_residual-in_err-list-5.ensures.1 in
    rw (p.1, p.2) (rejects (λ r m. ((out-DescriptorProto r).oneof_decl, m.oneof_decl)) (λ fault. record { why = inr (inr (inr (inr (inr (inr (inl (8, refl, fault))))))) }) c.in_err-list-5.ensures)

pub message_from_fields-returns-in_err-options : goal.message_from_fields-returns-in_err-options
message_from_fields-returns-in_err-options t c =
    let p = err_from_is_err_and c.from_residual-in_err-options.result c.from_residual-in_err-options.ensures.1 in
    rw (p.1, p.2) (rejects (λ r m. ((out-DescriptorProto r).options, m.options)) (λ fault. record { why = inr (inr (inr (inr (inr (inl fault))))) }) c.in_err-options.ensures)

pub message_from_fields-returns-in_err-list-6 : goal.message_from_fields-returns-in_err-list-6
message_from_fields-returns-in_err-list-6 t c =
    let p = err_from_is_err_and c.from_residual-in_err-list-6.result c.from_residual-in_err-list-6.ensures.1 in
    rw (p.1, p.2) (rejects (λ r m. ((out-DescriptorProto r).reserved_range, m.reserved_range)) (λ fault. record { why = inr (inr (inr (inr (inr (inr (inr (9, refl, fault))))))) }) c.in_err-list-6.ensures)

pub message_from_fields-returns-in_err-list-7 : goal.message_from_fields-returns-in_err-list-7
message_from_fields-returns-in_err-list-7 t c =
    let p = err_from_is_err_and c.from_residual-in_err-list-7.result c.from_residual-in_err-list-7.ensures.1 in
    rw (p.1, p.2) (rejects (λ r m. ((out-DescriptorProto r).reserved_name, m.reserved_name)) (λ fault. record { why = inl (10, refl, fault) }) c.in_err-list-7.ensures)

pub message_from_fields-returns : goal.message_from_fields-returns
message_from_fields-returns t c =
    let levels = c.args.fields.now.levels in
    level_rolls (IsMessage levels) levels (fields_view c.args.fields.now.list.items) _ (record {
      name = c.in_ok-last.ensures;
      field = c.in_ok-list.ensures;
      extension = c.in_ok-list-2.ensures;
      nested_type = c.in_ok-message_types.ensures;
      enum_type = c.in_ok-list-3.ensures;
      extension_range = c.in_ok-list-4.ensures;
      oneof_decl = c.in_ok-list-5.ensures;
      options = c.in_ok-options.ensures;
      reserved_range = c.in_ok-list-6.ensures;
      reserved_name = c.in_ok-list-7.ensures;
    })

pub message_type-returns-in_err-payload : goal.message_type-returns-in_err-payload
message_type-returns-in_err-payload t c =
    let p = err_from_is_err_and c.from_residual.result c.from_residual.ensures.1 in
    rw (p.1, p.2) (rejects (λ m h. let o = message_opens c.args.levels (value_view c.args.value) m h in (o.1.0, o.1.1)) (λ fault. fault_closes c.args.levels (value_view c.args.value) c.in_err-payload.field-0.0 (inl (inl fault))) c.in_err-payload.ensures.read)

pub message_type-returns-in_err-fields : goal.message_type-returns-in_err-fields
message_type-returns-in_err-fields t c =
    let r = c.from_residual-in_err-fields in
    let p = err_from_is_err_and r.result r.ensures.1 in
    let v = value_view c.args.value in
    rw (p.1, p.2) (rejects (λ m h.
    let o = message_opens c.args.levels v m h in
    (o.0, payload_fields c.args.levels (c.args.levels - 1) v c.in_ok-payload.payload.now o.0 c.in_ok-payload.ensures.read o.1)) (λ fault. fault_closes c.args.levels v c.in_err-fields.field-0.0 (inl (inr (c.in_ok-payload.payload.now, c.in_ok-payload.ensures.read, fault)))) c.in_err-fields.ensures.read)

pub message_type-returns : goal.message_type-returns
message_type-returns t c =
    let fs = fields_view c.in_ok-fields.fields.list.items in
    let levels = c.args.levels in
    takes_as (IsOpened levels) (IsMessage levels) (OpenedFault levels) (MessageFault levels) (value_view c.args.value) c.message_from_fields.result
    (message_closes levels (value_view c.args.value)) (message_opens levels (value_view c.args.value)) (fault_closes levels (value_view c.args.value))
    (whole_read (λ gs m. IsLevel (IsMessage (levels - 1)) (levels - 1) gs (out-DescriptorProto m)) (InLevel (MessageFault (levels - 1)) (levels - 1)) levels (levels - 1) (value_view c.args.value) fs c.message_from_fields.result
    (c.in_ok-payload.payload.now, c.in_ok-payload.ensures.read, c.in_ok-fields.ensures.read)
    (subst (λ k. ReadsMeant (λ gs m. IsLevel (IsMessage k) k gs (out-DescriptorProto m)) (InLevel (MessageFault k) k) fs c.message_from_fields.result) c.in_ok-fields.ensures.levels c.message_from_fields.ensures))

pub message_types-returns-in_err-message_type : goal.message_types-returns-in_err-message_type
message_types-returns-in_err-message_type t c =
    let bits : to_z w32 (of_z w32 c.args.number) ≡ c.args.number = search rules in
    let p = err_from_is_err_and c.from_residual-in_err-message_type.result c.from_residual-in_err-message_type.ensures.1 in
    rw (p.1, p.2) (rejects_at c.unsigned_abs-wanted.result c.deref-field-items.result.now c.loop-field.field-index blank c.loop-field-test.true (unsigned_abs c.args.number) c.args.fields.now.list.items (c.unsigned_abs-wanted.ensures.value ∙ ap unsigned_abs bits) c.deref-field-items.ensures.value
    c.if-field-wanted.true (IsMessage c.args.fields.now.levels) (MessageFault c.args.fields.now.levels) _ _ (λ ms each. (ms.items, each)) c.in_err-message_type.ensures)

pub message_types-loop-field-preserved : goal.message_types-loop-field-preserved
message_types-loop-field-preserved t c =
    let i = c.loop-field.invariant in
    elim c.if-field-wanted.branch [
      | message_types-then-field-wanted+in_ok-message_type+in_ok-push w ↦
          let x = w.in_ok-message_type.field-0 in
          let items = ap (λ (v : Vec _ Global). v.items) w.list-is ∙ w.in_ok-push.ensures.items in
          subst (AllZip (IsMessage c.args.fields.now.levels) (values_at c.unsigned_abs-wanted.result (fields_view (take (c.loop-field.field-index + 1) c.deref-field-items.result.now)))) (sym items)
          (each_hit c.unsigned_abs-wanted.result c.deref-field-items.result.now c.loop-field.field-index blank c.loop-field-test.true (IsMessage c.args.fields.now.levels) c.loop-field.list.items i x w.if-field-wanted.true w.in_ok-message_type.ensures)
      | message_types-else-field-wanted w ↦
          let items = ap (λ (v : Vec _ Global). v.items) w.list-is in
          subst (AllZip (IsMessage c.args.fields.now.levels) (values_at c.unsigned_abs-wanted.result (fields_view (take (c.loop-field.field-index + 1) c.deref-field-items.result.now)))) (sym items)
          (each_miss c.unsigned_abs-wanted.result c.deref-field-items.result.now c.loop-field.field-index blank c.loop-field-test.true (IsMessage c.args.fields.now.levels) c.loop-field.list.items i w.if-field-wanted.false)
    ]
