use Rattle.std.proofs.Common.{◌≡◌, ◌++◌, length}
use Rattle.std.specs.Prelude.{unsigned_abs}
use Rattle.reflect_codec.specs.Fields.{int32s_field}
use Rattle.reflect_codec.specs.Held.{held}
use Rattle.reflect_codec.proofs.backward.Backward.put_int32s.Given as goal

abbrev pub invariant-loop-last : goal.invariant-loop-last
invariant-loop-last l = int32s_field (unsigned_abs l.number) l.left ++ held l.self ≡ int32s_field (unsigned_abs l.number) l.initial.left ++ held l.initial.self

abbrev pub decreases-loop-last : goal.decreases-loop-last
decreases-loop-last l = length l.left
