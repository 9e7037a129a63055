use Rattle.reflect_wire.proofs.Keys.{no_payload, payload_there}
use Rattle.reflect_wire.proofs.read.delimited_at.Goals as goal

pub returns-then-len-rest-clause-read : goal.returns-then-len-rest-clause-read
returns-then-len-rest-clause-read c = no_payload c.args.bytes.now c.in_ok-len.rest.now c.in_ok-len.len c.in_ok-len.ensures.read c.if-len-rest.true

pub returns-clause-read : goal.returns-clause-read
returns-clause-read c = payload_there c.args.bytes.now c.in_ok-len.rest.now c.split_at.result.0.now c.split_at.result.1.now c.in_ok-len.len c.in_ok-len.ensures.read c.split_at.ensures.by_index.0 c.split_at.ensures.front_len
