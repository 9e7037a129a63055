-- How much of a text is not taken.
use Rattle.std.specs.Prelude.{ℕ, length}
use Rattle.text_scalars.specs.Remaining.{remaining}
use Rattle.text_scalars.specs.declared.tokens.Tokens.{Tokens}

abbrev pub left : Tokens → ℕ
left t = length (remaining t)
