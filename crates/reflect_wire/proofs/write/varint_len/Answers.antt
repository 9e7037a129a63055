use Rattle.std.proofs.Common.{ap, length, arith}
use Rattle.reflect_wire.proofs.Encodings.{varint_bytes-last, varint_bytes-more}
use Rattle.reflect_wire.proofs.write.varint_len.Goals as goal

pub loop-rest-preserved : goal.loop-rest-preserved
loop-rest-preserved c = record {
  counted = omega (arith, ap length (varint_bytes-more c.loop-rest.rest c.loop-rest-test.true));
  small = omega arith;
}

pub returns : goal.returns
returns c = omega (arith, ap length (varint_bytes-last c.loop-rest.rest c.loop-rest-test.false))
