use Rattle.std.proofs.Common.{◌≡◌, ◌++◌}
use Rattle.reflect_wire.specs.Encoding.{varint_bytes, KeepsFront}
use Rattle.reflect_wire.proofs.write.push_varint.Given as goal

abbrev pub invariant-loop-rest : goal.invariant-loop-rest
invariant-loop-rest l = record {
  written : l.out.items ++ varint_bytes l.rest ≡ l.initial.out.items ++ varint_bytes l.initial.rest;
  front : KeepsFront l.initial.out.items l.out.items;
}

abbrev pub decreases-loop-rest : goal.decreases-loop-rest
decreases-loop-rest l = l.rest
