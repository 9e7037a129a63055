-- Less is left behind a piece.
use Rattle.std.proofs.Common.{◌<◌, [], ◌∷◌, length, arith}
use Rattle.protox_tokens.specs.Stream.{Stream, tail}

pub tail_is_less : (ts : Stream) → 0 < length ts → length (tail ts) < length ts
tail_is_less [] h = absurd (omega arith)
tail_is_less (t ∷ ts) h = omega arith
