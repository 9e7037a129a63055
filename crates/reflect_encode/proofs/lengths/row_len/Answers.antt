use Rattle.std.proofs.Common.{◌+◌, length, map, refl, ap, arith}
use Rattle.std.specs.List.{flat_map}
use Rattle.std.proofs.lemmas.List.{take_all}
use Rattle.reflect_wire.proofs.Lengths.{none_told}
use Rattle.reflect_message.specs.Singles.{single}
use Rattle.reflect_encode.proofs.Measuring.{more_length, most_length}
use Rattle.reflect_encode.specs.Puts.{bare_bytes}
use Rattle.reflect_encode.proofs.lengths.row_len.Goals as goal

pub values-init : goal.values-init
values-init c = record { counted = refl; small = omega arith }

pub returns-in_err-bare_len : goal.returns-in_err-bare_len
returns-in_err-bare_len c =
    let values = c.args.values.now in
    let more = more_length single (bare_bytes c.args.kind.now) values c.values.value-index c.value-item.result c.values-test.true c.value-item.is in
    let most = most_length single (bare_bytes c.args.kind.now) values (c.values.value-index + 1) in
    let same = ap (λ v. length (bare_bytes c.args.kind.now v)) c.as_scalar.ensures in
    none_told _ c.from_residual.result c.from_residual.ensures (omega (arith, more, most, c.in_err-bare_len.ensures, same))

pub returns-in_err-len : goal.returns-in_err-len
returns-in_err-len c =
    let values = c.args.values.now in
    let more = more_length single (bare_bytes c.args.kind.now) values c.values.value-index c.value-item.result c.values-test.true c.value-item.is in
    let most = most_length single (bare_bytes c.args.kind.now) values (c.values.value-index + 1) in
    let same = ap (λ v. length (bare_bytes c.args.kind.now v)) c.as_scalar.ensures in
    none_told _ c.from_residual-in_err-len.result c.from_residual-in_err-len.ensures (omega (arith, more, most, c.values.invariant.counted, c.in_err-len.ensures, c.in_ok-bare_len.ensures, same))

pub values-preserved : goal.values-preserved
values-preserved c =
    let values = c.args.values.now in
    let more = more_length single (bare_bytes c.args.kind.now) values c.values.value-index c.value-item.result c.values-test.true c.value-item.is in
    let same = ap (λ v. length (bare_bytes c.args.kind.now v)) c.as_scalar.ensures in
    record { counted = omega (arith, more, c.values.invariant.counted, c.in_ok-len.ensures, c.in_ok-bare_len.ensures, same); small = omega (arith, c.in_ok-len.ensures) }

pub returns : goal.returns
returns c =
    let values = c.args.values.now in
    let whole = ap (λ l. length (flat_map (bare_bytes c.args.kind.now) (map single l))) (take_all c.values.value-index values (omega (arith, c.values-test.false))) in
    (omega (arith, whole, c.values.invariant.counted, c.values.invariant.small), omega (arith, whole, c.values.invariant.counted))
