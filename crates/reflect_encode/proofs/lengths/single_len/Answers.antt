use Rattle.std.proofs.Common.{rules, ◌≡◌, Some, option_map, arith, ap, length}
use Rattle.reflect_scalar.specs.Kinds.{wire_type}
use Rattle.reflect_scalar.specs.Singles.{scalar_view, wire_view}
use Rattle.reflect_encode.proofs.Forms.{record_same}
use Rattle.reflect_encode.proofs.Measuring.{single_length, told}
use Rattle.reflect_encode.specs.Puts.{form}
use Rattle.reflect_encode.proofs.lengths.single_len.Goals as goal

pub returns-in_ok-scalar_len-in-Some : goal.returns-in_ok-scalar_len-in-Some
returns-in_ok-scalar_len-in-Some c = λ pool k is.
    let kind = c.args.kind.now in
    let v = option_map scalar_view c.args.value in
    let p = wire_view c.in-Some.written in
    let formed : form kind v ≡ Some p = search rules in
    let whole = single_length kind c.args.number v p formed in
    let same = ap length (record_same pool kind k c.args.number v is) in
    told c.checked_add.result _ _ (omega (arith, whole, same, c.key_len_of.ensures (wire_type kind), c.in_ok-scalar_len-in-Some.ensures)) c.checked_add.ensures
