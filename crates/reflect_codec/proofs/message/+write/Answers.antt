use Rattle.std.proofs.Common.{◌≡◌, ◌++◌, [], ◌∷◌, refl, sym, ap, subst, arith}
use Rattle.reflect_codec.specs.Fields.{payload_field, records_field, texts_field}
use Rattle.reflect_codec.specs.Held.{held}
use Rattle.reflect_codec.specs.Written.{field_bytes, oneof_bytes, enum_bytes, extension_range_bytes, reserved_range_bytes, message_bytes}
use Rattle.reflect_codec.proofs.Messages.{weights, weights-push, message_bytes-out, records_step, then_part}
use Rattle.reflect_codec.proofs.message.+write.Goals as goal

pub put_message_type-returns : goal.put_message_type-returns
put_message_type-returns t c = rw (message_bytes-out c.args.message.now)
    (then_part _ _ _ _ _ _ c.in_ok-put_text.ensures refl
    (then_part _ _ _ _ _ _ c.in_ok-put_records-6.ensures (ap (records_field field_bytes 2) c.deref-8.ensures.value)
    (then_part _ _ _ _ _ _ c.in_ok-put_message_types.ensures (ap (records_field message_bytes 3) c.deref-7.ensures.value)
    (then_part _ _ _ _ _ _ c.in_ok-put_records-5.ensures (ap (records_field enum_bytes 4) c.deref-6.ensures.value)
    (then_part _ _ _ _ _ _ c.in_ok-put_records-4.ensures (ap (records_field extension_range_bytes 5) c.deref-5.ensures.value)
    (then_part _ _ _ _ _ _ c.in_ok-put_records-3.ensures (ap (records_field field_bytes 6) c.deref-4.ensures.value)
    (then_part _ _ _ _ _ _ c.in_ok-put_options.ensures refl
    (then_part _ _ _ _ _ _ c.in_ok-put_records-2.ensures (ap (records_field oneof_bytes 8) c.deref-3.ensures.value)
    (then_part _ _ _ _ _ _ c.in_ok-put_records.ensures (ap (records_field reserved_range_bytes 9) c.deref-2.ensures.value)
    (then_part _ _ _ _ _ _ c.in_ok-put_texts.ensures (ap (texts_field 10) c.deref.ensures.value) refl))))))))))

pub put_message_types-put_message_type-requires : goal.put_message_types-put_message_type-requires
put_message_types-put_message_type-requires t c =
    let grown = weights-push c.in-Some.front.now c.in-Some.last.now in
    let left : weights c.loop-last.left.now ≡ weights (c.in-Some.front.now ++ c.in-Some.last.now ∷ []) = ap weights c.in-Some.ensures.cases.0 in
    (omega (arith, grown, left, c.loop-last.invariant.lighter), tt)

pub put_message_types-loop-last-preserved : goal.put_message_types-loop-last-preserved
put_message_types-loop-last-preserved t c =
    let grown = weights-push c.in-Some.front.now c.in-Some.last.now in
    let left : weights c.loop-last.left.now ≡ weights (c.in-Some.front.now ++ c.in-Some.last.now ∷ []) = ap weights c.in-Some.ensures.cases.0 in
    record {
      written = records_step message_bytes _ c.in-Some.front.now c.loop-last.left.now c.in-Some.last.now (held c.loop-last.out) (held c.put_length.new.self) _ c.in-Some.ensures.cases.0
          (subst (λ n. held c.put_length.new.self ≡ payload_field n (message_bytes c.in-Some.last.now) ++ held c.loop-last.out) c.unsigned_abs.ensures.value
          (c.in_ok-put_length.ensures (message_bytes c.in-Some.last.now) (held c.loop-last.out) c.in_ok-put_message_type.ensures (sym c.len-end.ensures))) c.loop-last.invariant.written;
      lighter = omega (arith, grown, left, c.loop-last.invariant.lighter);
    }
