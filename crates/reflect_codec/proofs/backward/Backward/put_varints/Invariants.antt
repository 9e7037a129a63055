use Rattle.std.proofs.Common.{◌≡◌, ◌++◌, length}
use Rattle.std.specs.List.{flat_map}
use Rattle.std.specs.Int.{w64, cast_unsigned}
use Rattle.reflect_wire.specs.Encoding.{varint_bytes}
use Rattle.reflect_codec.specs.Held.{held}
use Rattle.reflect_codec.proofs.backward.Backward.put_varints.Given as goal

abbrev pub invariant-loop-last : goal.invariant-loop-last
invariant-loop-last l = flat_map (λ n. varint_bytes (cast_unsigned w64 n)) l.left ++ held l.self ≡ flat_map (λ n. varint_bytes (cast_unsigned w64 n)) l.initial.left ++ held l.initial.self

abbrev pub decreases-loop-last : goal.decreases-loop-last
decreases-loop-last l = length l.left
