use Rattle.std.proofs.Common.{ℕ, ◌<◌, List, [], ◌∷◌}
use Rattle.std.specs.List.{AllByRecursion}
use Rattle.reflect_wire.specs.Written.{AreBytes}
use Rattle.valid_view.proofs.whole.slices_are_of_bytes.Goals as goal

are_bytes : (bs : List ℕ) → AllByRecursion (λ b. b < 256) bs → AreBytes bs
are_bytes [] h = tt
are_bytes (b ∷ bs) h = (h.0, are_bytes bs h.1)

pub returns-clause-bytes : goal.returns-clause-bytes
returns-clause-bytes c = are_bytes c.args.bytes.now c.each_is_byte.ensures
