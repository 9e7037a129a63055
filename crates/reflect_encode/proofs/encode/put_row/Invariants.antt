use Rattle.std.proofs.Common.{◌≡◌, ◌++◌, map}
use Rattle.reflect_codec.specs.Held.{held}
use Rattle.reflect_encode.specs.Puts.{row_bytes}
use Rattle.reflect_message.specs.Singles.{single}
use Rattle.reflect_encode.proofs.encode.put_row.Given as goal

-- the values that are left stand before what was put
abbrev pub invariant-values : goal.invariant-values
invariant-values l = row_bytes l.kind (map single l.value-iterator.iter.rest.now) ++ held l.out ≡ row_bytes l.kind (map single l.values) ++ held l.initial.out
