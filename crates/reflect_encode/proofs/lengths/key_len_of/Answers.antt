use Rattle.std.proofs.Common.{rules, ◌≡◌, length, ◌∙◌}
use Rattle.reflect_wire.specs.Encoding.{key_bytes}
use Rattle.reflect_wire.specs.Records.{key_of}
use Rattle.reflect_wire.specs.declared.wire_key.WireType.TheVariants.{LengthDelimited}
use Rattle.reflect_encode.proofs.Measuring.{key_length}
use Rattle.reflect_encode.proofs.lengths.key_len_of.Goals as goal

pub returns : goal.returns
returns c = λ wire.
    let told : c.key_len.result ≡ length (key_bytes (key_of c.args.number LengthDelimited)) = search rules in
    told ∙ key_length c.args.number LengthDelimited wire
