use Rattle.std.proofs.Common.{length, map, arith, ap, refl}
use Rattle.reflect_wire.proofs.Lengths.{none_told}
use Rattle.reflect_scalar.specs.FieldTypes.{either_pool, either_type}
use Rattle.reflect_message.specs.Bytes.{form_of, row_in}
use Rattle.reflect_encode.proofs.Forms.{row_same}
use Rattle.reflect_encode.proofs.Measuring.{payload_length}
use Rattle.reflect_encode.proofs.lengths.packed_len.Goals as goal

pub returns-in_err-row_len : goal.returns-in_err-row_len
returns-in_err-row_len c =
    let f = either_type c.args.field in
    let vs = c.args.values.now in
    let same = row_same (either_pool c.args.field) c.kind.result f.kind vs c.kind.ensures in
    let whole = payload_length f.number (row_in f.kind (map form_of vs)) _ refl in
    none_told _ c.from_residual.result c.from_residual.ensures (omega (arith, whole, ap length same, c.in_err-row_len.ensures))
