use Rattle.std.proofs.Common.{◌≡◌, ◌-◌, refl, inl, inr, arith}
use Rattle.std.proofs.lemmas.Result.{err_from_is_err_and}
use Rattle.reflect_wire.specs.Faults.{ValueFault, GroupFault}
use Rattle.reflect_wire.proofs.Faulty.{tells_fault, tells_as, varint_fault, fixed64_fault, fixed32_fault, delimited_fault, group_fault}
use Rattle.reflect_wire.proofs.Reading.{refuses_more}
use Rattle.reflect_wire.proofs.Groups.{no_key_no_group, other_end, no_value_no_group, whole_group, pushed, no_delimited, no_group}
use Rattle.reflect_wire.specs.Views.{records_view}
use Rattle.reflect_wire.specs.declared.unknown.UnknownField.{UnknownField}
use Rattle.reflect_wire.proofs.unknown.+value.Goals as goal

pub group_at-returns-in_err-key-clause-read : goal.group_at-returns-in_err-key-clause-read
group_at-returns-in_err-key-clause-read t c =
    let p = err_from_is_err_and c.from_residual.result c.from_residual.ensures.1 in
    rw (p.1, p.2) (refuses_more _ _ _ _ c.in_err-key.field-0.0 (no_key_no_group c.args.levels c.args.number c.args.bytes.now c.loop-fields.rest.now (records_view c.loop-fields.fields.items) c.loop-fields.invariant) c.in_err-key.ensures.read)

pub group_at-returns-then-key-number-clause-read : goal.group_at-returns-then-key-number-clause-read
group_at-returns-then-key-number-clause-read t c = other_end c.args.levels c.args.number c.args.bytes.now c.loop-fields.rest.now (records_view c.loop-fields.fields.items) c.loop-fields.invariant
    c.in_ok-key.key c.in_ok-key.behind.now c.in_ok-key.ensures.read c.in-EndGroup.is c.if-key-number.true

pub group_at-returns-in-EndGroup-clause-read : goal.group_at-returns-in-EndGroup-clause-read
group_at-returns-in-EndGroup-clause-read t c = whole_group c.args.levels c.args.number c.args.bytes.now c.loop-fields.rest.now (records_view c.loop-fields.fields.items) c.loop-fields.invariant
    c.in_ok-key.key c.in_ok-key.behind.now c.in_ok-key.ensures.read c.in-EndGroup.is c.if-key-number.false

pub group_at-returns-in_err-value-clause-read : goal.group_at-returns-in_err-value-clause-read
group_at-returns-in_err-value-clause-read t c =
    let r = c.from_residual-in_err-value in
    let p = err_from_is_err_and r.result r.ensures.1 in
    rw (p.1, p.2) (refuses_more _ _ _ _ c.in_err-value.field-0.0
    (no_value_no_group c.args.levels c.args.number c.args.bytes.now c.loop-fields.rest.now (records_view c.loop-fields.fields.items) c.loop-fields.invariant
    c.in_ok-key.key c.in_ok-key.behind.now c.in_ok-key.ensures.read c.in_default.not-EndGroup)
    c.in_err-value.ensures.read)

pub group_at-loop-fields-preserved : goal.group_at-loop-fields-preserved
group_at-loop-fields-preserved t c =
    let f : UnknownField = record { number = c.in_ok-key.key.number; value = c.in_ok-value.value } in
    rw c.in_ok-push.ensures.items (pushed c.args.levels c.args.bytes.now c.loop-fields.rest.now c.in_ok-key.behind.now c.in_ok-value.behind.now c.in_ok-key.key c.loop-fields.fields.items f
    c.loop-fields.invariant c.in_ok-key.ensures.read c.in_ok-value.ensures.read refl)

pub value_at-returns-in_err-payload-in-LengthDelimited-clause-read :
    goal.value_at-returns-in_err-payload-in-LengthDelimited-clause-read
value_at-returns-in_err-payload-in-LengthDelimited-clause-read t c =
    let r = c.from_residual-in_err-payload-in-LengthDelimited in
    let p = err_from_is_err_and r.result r.ensures.1 in
    rw (p.1, p.2) (refuses_more _ _ _ _ c.in_err-payload-in-LengthDelimited.field-0.0 (no_delimited c.args.levels c.args.key c.args.bytes.now c.in-LengthDelimited.is) c.in_err-payload-in-LengthDelimited.ensures.read)

pub value_at-returns-in_err-fields-in-StartGroup-clause-read :
    goal.value_at-returns-in_err-fields-in-StartGroup-clause-read
value_at-returns-in_err-fields-in-StartGroup-clause-read t c =
    let r = c.from_residual-in_err-fields-in-StartGroup in
    let p = err_from_is_err_and r.result r.ensures.1 in
    rw (p.1, p.2) (refuses_more _ _ _ _ c.in_err-fields-in-StartGroup.field-0.0 (no_group c.args.levels c.args.key c.args.bytes.now c.in-StartGroup.is) c.in_err-fields-in-StartGroup.ensures.read)

pub value_at-returns-in_err-n-in-Varint-clause-fault :
    goal.value_at-returns-in_err-n-in-Varint-clause-fault
value_at-returns-in_err-n-in-Varint-clause-fault t c =
    let r = c.from_residual in
    let p = err_from_is_err_and r.result r.ensures.1 in
    rw (p.1, p.2) (tells_fault (ValueFault c.args.levels c.args.key) c.args.bytes.now c.in_err-n-in-Varint.field-0.0
    (varint_fault c.args.levels c.args.key c.args.bytes.now c.in_err-n-in-Varint.field-0.0 c.in-Varint.is c.in_err-n-in-Varint.ensures.fault))

pub value_at-returns-in_err-n-in-SixtyFourBit-clause-fault :
    goal.value_at-returns-in_err-n-in-SixtyFourBit-clause-fault
value_at-returns-in_err-n-in-SixtyFourBit-clause-fault t c =
    let r = c.from_residual-in_err-n-in-SixtyFourBit in
    let p = err_from_is_err_and r.result r.ensures.1 in
    rw (p.1, p.2) (tells_fault (ValueFault c.args.levels c.args.key) c.args.bytes.now c.in_err-n-in-SixtyFourBit.field-0.0
    (fixed64_fault c.args.levels c.args.key c.args.bytes.now c.in_err-n-in-SixtyFourBit.field-0.0 c.in-SixtyFourBit.is c.in_err-n-in-SixtyFourBit.ensures.fault))

pub value_at-returns-in_err-payload-in-LengthDelimited-clause-fault :
    goal.value_at-returns-in_err-payload-in-LengthDelimited-clause-fault
value_at-returns-in_err-payload-in-LengthDelimited-clause-fault t c =
    let r = c.from_residual-in_err-payload-in-LengthDelimited in
    let p = err_from_is_err_and r.result r.ensures.1 in
    rw (p.1, p.2) (tells_fault (ValueFault c.args.levels c.args.key) c.args.bytes.now c.in_err-payload-in-LengthDelimited.field-0.0
    (delimited_fault c.args.levels c.args.key c.args.bytes.now c.in_err-payload-in-LengthDelimited.field-0.0 c.in-LengthDelimited.is c.in_err-payload-in-LengthDelimited.ensures.fault))

pub value_at-returns-in_err-n-in-ThirtyTwoBit-clause-fault :
    goal.value_at-returns-in_err-n-in-ThirtyTwoBit-clause-fault
value_at-returns-in_err-n-in-ThirtyTwoBit-clause-fault t c =
    let r = c.from_residual-in_err-n-in-ThirtyTwoBit in
    let p = err_from_is_err_and r.result r.ensures.1 in
    rw (p.1, p.2) (tells_fault (ValueFault c.args.levels c.args.key) c.args.bytes.now c.in_err-n-in-ThirtyTwoBit.field-0.0
    (fixed32_fault c.args.levels c.args.key c.args.bytes.now c.in_err-n-in-ThirtyTwoBit.field-0.0 c.in-ThirtyTwoBit.is c.in_err-n-in-ThirtyTwoBit.ensures.fault))

pub value_at-returns-in_err-fields-in-StartGroup-clause-fault :
    goal.value_at-returns-in_err-fields-in-StartGroup-clause-fault
value_at-returns-in_err-fields-in-StartGroup-clause-fault t c =
    let r = c.from_residual-in_err-fields-in-StartGroup in
    let p = err_from_is_err_and r.result r.ensures.1 in
    let e = c.in_err-fields-in-StartGroup.field-0.0 in
    let some : c.args.levels ≡ 0 → ⊥ = λ none. omega arith in
    rw (p.1, p.2) (tells_as (GroupFault (c.args.levels - 1) c.args.key.number) (ValueFault c.args.levels c.args.key) c.args.bytes.now c.args.bytes.now e
    (group_fault c.args.levels c.args.key c.args.bytes.now e c.in-StartGroup.is some) c.in_err-fields-in-StartGroup.ensures.fault)

pub group_at-returns-in_err-key-clause-fault : goal.group_at-returns-in_err-key-clause-fault
group_at-returns-in_err-key-clause-fault t c =
    let p = err_from_is_err_and c.from_residual.result c.from_residual.ensures.1 in
    rw (p.1, p.2) (tells_fault (GroupFault c.args.levels c.args.number) c.args.bytes.now c.in_err-key.field-0.0
    (records_view c.loop-fields.fields.items, (c.loop-fields.rest.now, c.loop-fields.invariant, inl c.in_err-key.ensures.fault)))

pub group_at-returns-in_err-value-clause-fault : goal.group_at-returns-in_err-value-clause-fault
group_at-returns-in_err-value-clause-fault t c =
    let r = c.from_residual-in_err-value in
    let p = err_from_is_err_and r.result r.ensures.1 in
    rw (p.1, p.2) (tells_as (ValueFault c.args.levels c.in_ok-key.key) (GroupFault c.args.levels c.args.number) c.in_ok-key.behind.now c.args.bytes.now c.in_err-value.field-0.0
    (λ fault. (records_view c.loop-fields.fields.items, (c.loop-fields.rest.now, c.loop-fields.invariant, inr (c.in_ok-key.key, (c.in_ok-key.behind.now, c.in_ok-key.ensures.read, inr fault)))))
    c.in_err-value.ensures.fault)
