use Rattle.std.proofs.Common.{◌+◌, ◌-◌, ◌*◌, refl, arith}
use Rattle.reflect_wire.proofs.Varints.{last_byte, joined}
use Rattle.reflect_wire.proofs.read.three_bytes_at.Goals as goal

pub returns-then-low-lt128 : goal.returns-then-low-lt128
returns-then-low-lt128 c = rw c.from.ensures
    (last_byte 8 c.in_ok-first.first.now c.args.bytes.now c.in_ok-first.rest.now c.in_ok-first.ensures.cases.0 c.if-low-lt128.true, omega arith)

pub returns-then-middle-lt128 : goal.returns-then-middle-lt128
returns-then-middle-lt128 c = rw (c.from-then-middle-lt128.ensures, c.from-then-middle-lt128-2.ensures) (
  joined 8 9 c.in_ok-first.first.now c.in_ok-second.second.now c.args.bytes.now c.in_ok-first.rest.now c.in_ok-second.rest.now refl c.in_ok-first.ensures.cases.0 c.if-low-lt128.false (omega arith)
      (last_byte 7 c.in_ok-second.second.now c.in_ok-first.rest.now c.in_ok-second.rest.now c.in_ok-second.ensures.cases.0 c.if-middle-lt128.true) (omega arith),
  omega arith,
)

pub returns : goal.returns
returns c = rw (c.from-2.ensures, c.from-3.ensures, c.from-4.ensures) (
  joined 8 9 c.in_ok-first.first.now (c.in_ok-third.third.now * 128 + (c.in_ok-second.second.now - 128)) c.args.bytes.now c.in_ok-first.rest.now c.in_ok-third.behind.now refl c.in_ok-first.ensures.cases.0 c.if-low-lt128.false (omega arith)
      (joined 7 8 c.in_ok-second.second.now c.in_ok-third.third.now c.in_ok-first.rest.now c.in_ok-second.rest.now c.in_ok-third.behind.now refl c.in_ok-second.ensures.cases.0 c.if-middle-lt128.false (omega arith)
      (last_byte 6 c.in_ok-third.third.now c.in_ok-second.rest.now c.in_ok-third.behind.now c.in_ok-third.ensures.cases.0 c.if-high-ge128.false) (omega arith)) (omega arith),
  omega arith,
)
