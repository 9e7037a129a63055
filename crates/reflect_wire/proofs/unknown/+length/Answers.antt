use Rattle.std.proofs.Common.{◌≡◌, length, arith, ap}
use Rattle.std.proofs.lemmas.Grind.{common_steps}
use Rattle.reflect_wire.specs.Encoding.{field_bytes, records_bytes}
use Rattle.reflect_wire.specs.Views.{field_view, set_view}
use Rattle.reflect_wire.proofs.Lengths.{none_told, set_longer}
use Rattle.reflect_wire.proofs.Views.{set_bytes}
use Rattle.reflect_wire.proofs.unknown.+length.Goals as goal

pub UnknownFieldSet::encoded_len-returns-in_err-encoded_len :
    goal.UnknownFieldSet::encoded_len-returns-in_err-encoded_len
UnknownFieldSet::encoded_len-returns-in_err-encoded_len t c =
    let longer = set_longer c.args.self.now c.deref-field-items.result.now c.loop-field.field-index c.field-item.result c.deref-field-items.ensures.value c.loop-field-test.true in
    let here = ap (λ f. length (field_bytes (field_view f))) c.field-item.is in
    none_told _ c.from_residual.result c.from_residual.ensures (omega (arith, longer, here, c.in_err-encoded_len.ensures))

pub UnknownFieldSet::encoded_len-returns-in_err-len : goal.UnknownFieldSet::encoded_len-returns-in_err-len
UnknownFieldSet::encoded_len-returns-in_err-len t c =
    let longer = set_longer c.args.self.now c.deref-field-items.result.now c.loop-field.field-index c.field-item.result c.deref-field-items.ensures.value c.loop-field-test.true in
    let here = ap (λ f. length (field_bytes (field_view f))) c.field-item.is in
    none_told _ c.from_residual-in_err-len.result c.from_residual-in_err-len.ensures (omega (arith, longer, here, c.in_err-len.ensures, c.in_ok-encoded_len.ensures))

pub UnknownFieldSet::encoded_len-returns : goal.UnknownFieldSet::encoded_len-returns
UnknownFieldSet::encoded_len-returns t c =
    let whole = set_bytes c.args.self.now in
    let same : c.loop-field.len ≡ length (records_bytes (set_view c.args.self.now)) = grind (arith, common_steps) in
    (omega arith, same)
