-- The ranges and names of a record that an iterator has left.
use Rattle.std.specs.Prelude.{ℕ, ℤ, pos, negsuc, List, map, Option, Some, None, unwrap_or, string_bytes}
use Rattle.descriptor_records.specs.declared.enums.EnumReservedRange.{EnumReservedRange}
use Rattle.descriptor_records.specs.declared.message.ExtensionRange.{ExtensionRange}
use Rattle.descriptor_records.specs.declared.message.ReservedRange.{ReservedRange}
use Rattle.reflect_link.specs.declared.ranges.EnumReservedRanges.{EnumReservedRanges}
use Rattle.reflect_link.specs.declared.ranges.ExtensionRanges.{ExtensionRanges}
use Rattle.reflect_link.specs.declared.ranges.ReservedNames.{ReservedNames}
use Rattle.reflect_link.specs.declared.ranges.ReservedRanges.{ReservedRanges}

-- a bound of a range of field numbers, 0 where the record has none that is not negative
abbrev pub bound_of : Option ℤ → ℕ
bound_of None = 0
bound_of (Some (pos n)) = n
bound_of (Some (negsuc n)) = 0

-- the first number of a range, and the one behind its last
abbrev pub reserved_bounds : ReservedRange → ℕ × ℕ
reserved_bounds r = (bound_of r.start, bound_of r.end)

abbrev pub extension_bounds : ExtensionRange → ℕ × ℕ
extension_bounds r = (bound_of r.start, bound_of r.end)

-- the first number of an enum's range, and its last
abbrev pub enum_bounds : EnumReservedRange → ℤ × ℤ
enum_bounds r = (unwrap_or r.start (pos 0), unwrap_or r.end (pos 0))

abbrev pub reserved_left : ReservedRanges → List (ℕ × ℕ)
reserved_left s = map reserved_bounds s.rest.now

abbrev pub ranges_left : ExtensionRanges → List (ℕ × ℕ)
ranges_left s = map extension_bounds s.rest.now

abbrev pub enum_left : EnumReservedRanges → List (ℤ × ℤ)
enum_left s = map enum_bounds s.rest.now

abbrev pub names_left : ReservedNames → List (List ℕ)
names_left s = map string_bytes s.rest.now
