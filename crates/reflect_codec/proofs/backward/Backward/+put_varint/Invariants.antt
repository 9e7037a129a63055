use Rattle.reflect_codec.proofs.backward.Backward.+put_varint.Given as goal

abbrev pub decreases-put_varint : goal.decreases-put_varint
decreases-put_varint l = l.n
