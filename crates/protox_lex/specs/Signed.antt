-- The number that an integer with its sign is.
use Rattle.std.specs.Prelude.{if◌then◌else◌, ℤ, pos, ◌-ℤ◌}
use Rattle.protox_lex.specs.declared.literal.Int.{Int}

abbrev pub signed : Int → ℤ
signed n = if n.negative then pos 0 -ℤ pos n.value else pos n.value
