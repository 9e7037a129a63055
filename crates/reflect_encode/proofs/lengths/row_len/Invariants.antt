use Rattle.std.proofs.Common.{◌≡◌, ◌<◌, ◌^◌, length, map, take}
use Rattle.reflect_message.specs.Singles.{single}
use Rattle.reflect_encode.specs.Puts.{row_bytes}
use Rattle.reflect_encode.proofs.lengths.row_len.Given as goal

-- the length that is counted is that of the values before this one
abbrev pub invariant-values : goal.invariant-values
invariant-values l = record {
  counted : l.len ≡ length (row_bytes l.kind (map single (take l.value-index l.values)));
  small : l.len < 2 ^ 64;
}
