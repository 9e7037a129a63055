use Rattle.std.proofs.Common.{arith}
use Rattle.reflect_wire.proofs.Keys.{no_key, no_form, number_of}
use Rattle.reflect_wire.proofs.read.key_at.Goals as goal

pub returns-in_default-clause-read : goal.returns-in_default-clause-read
returns-in_default-clause-read c = no_key c.args.bytes.now c.in_ok-n.rest.now c.in_ok-n.n c.in_ok-n.ensures.read (λ key some small e. no_form c.in_ok-n.n key (omega arith) e)

pub returns-then-number-eq0-clause-read : goal.returns-then-number-eq0-clause-read
returns-then-number-eq0-clause-read c = no_key c.args.bytes.now c.in_ok-n.rest.now c.in_ok-n.n c.in_ok-n.ensures.read (λ key some small e.
    let number = number_of c.in_ok-n.n key e in omega (arith, c.then-number-eq0.either))
