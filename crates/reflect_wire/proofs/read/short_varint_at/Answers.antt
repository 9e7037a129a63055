use Rattle.std.proofs.Common.{refl, arith}
use Rattle.reflect_wire.proofs.Varints.{last_byte, joined}
use Rattle.reflect_wire.proofs.read.short_varint_at.Goals as goal

pub returns-then-low-lt128 : goal.returns-then-low-lt128
returns-then-low-lt128 c = rw c.from.ensures (last_byte 9 c.in_ok-first.first.now c.args.bytes.now c.in_ok-first.rest.now c.in_ok-first.ensures.cases.0 c.if-low-lt128.true)

pub returns : goal.returns
returns c = rw c.from-2.ensures
    (joined 9 10 c.in_ok-first.first.now c.in_ok-high.high c.args.bytes.now c.in_ok-first.rest.now c.in_ok-high.behind.now refl c.in_ok-first.ensures.cases.0 c.if-low-lt128.false (omega arith)
    c.in_ok-high.ensures.0 (let s = c.in_ok-high.ensures.1 in omega arith))
