use Rattle.reflect_wire.proofs.read.+varint_within.Given as goal

abbrev pub decreases-varint_within : goal.decreases-varint_within
decreases-varint_within l = l.left
