-- The first set that is left is counted next; where a sum passes the largest length, so does the whole.
use Rattle.std.proofs.Common.{length, arith, ap}
use Rattle.reflect_wire.proofs.Lengths.{none_told}
use Rattle.reflect_wire.specs.Encoding.{records_bytes}
use Rattle.reflect_wire.specs.Views.{records_of}
use Rattle.reflect_entries.specs.Sets.{records_in}
use Rattle.reflect_entries.proofs.Descends.{length_of_sets}
use Rattle.reflect_entries.proofs.unknown_records.UnknownRecords.encoded_len.Goals as goal

pub returns-in_err-encoded_len : goal.returns-in_err-encoded_len
returns-in_err-encoded_len c =
    let first = ap (λ es. length (records_bytes (records_of (records_in es)))) c.in-Some.ensures.steps in
    let split = length_of_sets c.in-Some._number.now c.in-Some.set.now c.next.new.self in
    none_told _ c.from_residual.result c.from_residual.ensures (omega (arith, first, split, c.loop-number.invariant.counted, c.in_err-encoded_len.ensures))

pub returns-in_err-len : goal.returns-in_err-len
returns-in_err-len c =
    let first = ap (λ es. length (records_bytes (records_of (records_in es)))) c.in-Some.ensures.steps in
    let split = length_of_sets c.in-Some._number.now c.in-Some.set.now c.next.new.self in
    none_told _ c.from_residual-in_err-len.result c.from_residual-in_err-len.ensures (omega (arith, first, split, c.loop-number.invariant.counted, c.in_err-len.ensures, c.in_ok-encoded_len.ensures))

pub loop-number-preserved : goal.loop-number-preserved
loop-number-preserved c =
    let first = ap (λ es. length (records_bytes (records_of (records_in es)))) c.in-Some.ensures.steps in
    let split = length_of_sets c.in-Some._number.now c.in-Some.set.now c.next.new.self in
    record { counted = omega (arith, first, split, c.loop-number.invariant.counted, c.in_ok-len.ensures, c.in_ok-encoded_len.ensures); small = omega (arith, c.in_ok-len.ensures) }
