-- Numbers of a source in the fields of records.
use Rattle.std.specs.Prelude.{◌^◌, if◌then◌else◌, ℕ, ℤ, pos, negsuc, Bool, nat_lt, Option, Some, None}
use Rattle.protox_lex.specs.Signed.{signed}
use Rattle.protox_lex.specs.declared.literal.Int.{Int}
use Rattle.protox_tree.specs.declared.range.RangeEnd.{RangeEnd}
use Rattle.protox_tree.specs.declared.range.RangeEnd.TheVariants as ends
use Rattle.protox_tree.specs.declared.range.ReservedRange.{ReservedRange}

-- from -half on, and below half
abbrev pub is_within : ℕ → ℤ → Bool
is_within half (pos n) = nat_lt n half
is_within half (negsuc n) = nat_lt n half

-- the number, where it is in this range
abbrev pub held_by : ℕ → ℤ → Option ℤ
held_by half z = if is_within half z then Some z else None

abbrev pub i32_of : Int → Option ℤ
i32_of n = held_by (2 ^ 31) (signed n)

abbrev pub i64_of : Int → Option ℤ
i64_of n = held_by (2 ^ 63) (signed n)

-- the last number of a range that begins so: the first one where no other is written, this greatest
-- one where `max` is
abbrev pub last_from : Int → ℤ → RangeEnd → Option ℤ
last_from start greatest ends.None = i32_of start
last_from start greatest (ends.Int n) = i32_of n
last_from start greatest (ends.Max span) = Some greatest

abbrev pub last_of : ReservedRange → ℤ → Option ℤ
last_of range greatest = last_from range.start greatest range.end
