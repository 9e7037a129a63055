-- Places in lists, as records tell them.
use Rattle.std.specs.Prelude.{ℕ, ℤ, pos, if◌then◌else◌, nat_le}

-- A place, from 0 on, as an `int32`; one past the greatest of these is told as that.
abbrev pub place_of : ℕ → ℤ
place_of n = if nat_le n 2147483647 then pos n else pos 2147483647
