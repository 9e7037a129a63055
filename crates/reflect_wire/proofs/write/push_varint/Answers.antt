use Rattle.std.proofs.Common.{◌++◌, ap}
use Rattle.reflect_wire.proofs.Encodings.{varint_bytes-last, keeps_pushed, written_more}
use Rattle.reflect_wire.proofs.write.push_varint.Goals as goal

pub loop-rest-preserved : goal.loop-rest-preserved
loop-rest-preserved c = record {
  written = written_more c.loop-rest.out.items c.push.new.self.items c.loop-rest.rest _ c.in_ok-push.ensures.items c.loop-rest-test.true c.loop-rest.invariant.written;
  front = keeps_pushed c.args.out.now.items c.loop-rest.out.items c.push.new.self.items _ c.loop-rest.invariant.front c.in_ok-push.ensures.items;
}

pub returns-clause-ok : goal.returns-clause-ok
returns-clause-ok c =
    let last = ap (λ bs. c.loop-rest.out.items ++ bs) (varint_bytes-last c.loop-rest.rest c.loop-rest-test.false) in
    cc (last, c.in_ok-push-2.ensures.items, c.loop-rest.invariant.written)
