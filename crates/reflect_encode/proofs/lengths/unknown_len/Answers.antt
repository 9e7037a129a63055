use Rattle.std.proofs.Common.{rules, ◌≡◌, ◌∷◌, length, arith, ap}
use Rattle.reflect_wire.proofs.Lengths.{none_told}
use Rattle.reflect_wire.specs.Encoding.{records_bytes}
use Rattle.reflect_wire.specs.Views.{field_view, records_of}
use Rattle.reflect_entries.specs.Left.{unread}
use Rattle.reflect_entries.specs.Sets.{above}
use Rattle.reflect_entries.specs.Undeclared.{undeclared}
use Rattle.reflect_encode.proofs.Measuring.{next_record, next_zero, no_record}
use Rattle.reflect_encode.proofs.lengths.unknown_len.Goals as goal

pub records-init : goal.records-init
records-init c =
    let all : unread c.into_iter-record-iterator.result ≡ undeclared c.args.records.now = search rules in
    record { counted = omega (arith, ap (λ us. length (records_bytes (records_of (above 0 us)))) all); small = omega arith }

pub returns-in_err-encoded_len : goal.returns-in_err-encoded_len
returns-in_err-encoded_len c =
    let r = field_view c.in-Some.record.now in
    let step : unread c.records.record-iterator ≡ r ∷ unread c.next.new.self = search rules in
    let more = next_record (unread c.records.record-iterator) (unread c.next.new.self) r step (omega (arith, c.number.ensures, c.if-number-gt0.true)) in
    none_told _ c.from_residual.result c.from_residual.ensures (omega (arith, more, c.records.invariant.counted, c.in_err-encoded_len.ensures))

pub returns-in_err-len : goal.returns-in_err-len
returns-in_err-len c =
    let r = field_view c.in-Some.record.now in
    let step : unread c.records.record-iterator ≡ r ∷ unread c.next.new.self = search rules in
    let more = next_record (unread c.records.record-iterator) (unread c.next.new.self) r step (omega (arith, c.number.ensures, c.if-number-gt0.true)) in
    none_told _ c.from_residual-in_err-len.result c.from_residual-in_err-len.ensures (omega (arith, more, c.records.invariant.counted, c.in_err-len.ensures, c.in_ok-encoded_len.ensures))

pub records-preserved-then-number-gt0 : goal.records-preserved-then-number-gt0
records-preserved-then-number-gt0 c =
    let r = field_view c.in-Some.record.now in
    let step : unread c.records.record-iterator ≡ r ∷ unread c.next.new.self = search rules in
    let more = next_record (unread c.records.record-iterator) (unread c.next.new.self) r step (omega (arith, c.number.ensures, c.if-number-gt0.true)) in
    record { counted = omega (arith, more, c.records.invariant.counted, c.in_ok-len.ensures, c.in_ok-encoded_len.ensures); small = omega (arith, c.in_ok-len.ensures) }

pub records-preserved : goal.records-preserved
records-preserved c =
    let r = field_view c.in-Some.record.now in
    let step : unread c.records.record-iterator ≡ r ∷ unread c.next.new.self = search rules in
    let more = next_zero (unread c.records.record-iterator) (unread c.next.new.self) r step (omega (arith, c.number.ensures, c.if-number-gt0.false)) in
    record { counted = omega (arith, more, c.records.invariant.counted); small = c.records.invariant.small }

pub returns : goal.returns
returns c =
    let rest = no_record (unread c.records.record-iterator) (search rules) in
    (omega (arith, rest, c.records.invariant.counted, c.records.invariant.small), omega (arith, rest, c.records.invariant.counted))
