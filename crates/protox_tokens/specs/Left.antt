-- How much of a source is not read yet.
use Rattle.std.specs.Prelude.{ℕ, length}
use Rattle.protox_tokens.specs.Stream.{stream}
use Rattle.protox_tokens.specs.declared.tokens.Tokens.{Tokens}

-- how many pieces are left
abbrev pub left : Tokens → ℕ
left t = length (stream t)
