use Rattle.std.proofs.Common.{◌++◌, ap}
use Rattle.reflect_wire.proofs.Encodings.{varint_bytes-last, varint_bytes-more}
use Rattle.reflect_codec.specs.Held.{held}
use Rattle.reflect_codec.proofs.backward.Backward.+put_varint.Goals as goal

pub returns-then-n-lt128 : goal.returns-then-n-lt128
returns-then-n-lt128 t c =
    let last = ap (λ bs. bs ++ held c.args.self.now) (varint_bytes-last c.args.n c.if-n-lt128.true) in
    cc (last, c.in_ok-put_byte.ensures)

pub returns : goal.returns
returns t c =
    let more = ap (λ bs. bs ++ held c.args.self.now) (varint_bytes-more c.args.n c.if-n-lt128.false) in
    cc (more, c.in_ok-put_varint.ensures, c.in_ok-put_byte-2.ensures)
