use Rattle.std.proofs.Common.{arith}
use Rattle.reflect_wire.specs.declared.wire_key.WireType.TheVariants.{LengthDelimited}
use Rattle.reflect_encode.proofs.Measuring.{payload_length, told}
use Rattle.reflect_encode.proofs.lengths.payload_len.Goals as goal

pub returns : goal.returns
returns c = λ payload is.
    told c.checked_add.result _ _ (omega (arith, payload_length c.args.number payload c.args.len is, c.key_len_of.ensures LengthDelimited, c.in_ok-delimited_len.ensures)) c.checked_add.ensures
