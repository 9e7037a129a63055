use Rattle.std.proofs.Common.{◌≡◌, ◌+◌, ◌≤◌, length}
use Rattle.reflect_wire.specs.Encoding.{varint_bytes}
use Rattle.reflect_wire.proofs.write.varint_len.Given as goal

abbrev pub invariant-loop-rest : goal.invariant-loop-rest
invariant-loop-rest l = record {
  counted : l.len + length (varint_bytes l.rest) ≡ length (varint_bytes l.initial.rest) + 1;
  small : l.len + l.rest ≤ l.initial.rest + 1;
}

abbrev pub decreases-loop-rest : goal.decreases-loop-rest
decreases-loop-rest l = l.rest
