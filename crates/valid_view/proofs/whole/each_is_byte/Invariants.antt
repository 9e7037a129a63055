use Rattle.std.proofs.Common.{◌<◌, take}
use Rattle.std.specs.List.{AllByRecursion}
use Rattle.valid_view.proofs.whole.each_is_byte.Given as goal

abbrev pub invariant-bytes : goal.invariant-bytes
invariant-bytes l = AllByRecursion (λ b. b < 256) (take l.byte-index l.bytes)
