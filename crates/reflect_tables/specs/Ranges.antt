-- Ranges of numbers.
use Rattle.std.specs.Prelude.{ℤ, pos, ◌≤ℤ◌, ◌<ℤ◌, List, Option, Some, None, All, Contains, unwrap_or}
use Rattle.descriptor_records.specs.declared.message.ExtensionRange.{ExtensionRange}
use Rattle.descriptor_records.specs.declared.message.ReservedRange.{ReservedRange}

-- the numbers from the first, below the second
abbrev pub Range : Type 0
Range = ℤ × ℤ

-- the range that a record declares
abbrev pub reserved_range : ReservedRange → Range
reserved_range r = (unwrap_or r.start (pos 0), unwrap_or r.end (pos 0))

abbrev pub extension_range : ExtensionRange → Range
extension_range r = (unwrap_or r.start (pos 0), unwrap_or r.end (pos 0))

abbrev pub IsIn : ℤ → Range → Type 0
IsIn n r = (r.0 ≤ℤ n) × (n <ℤ r.1)

-- one of the ranges that has the number, or none where none has it
abbrev pub IsRangeOf : List Range → ℤ → Option Range → Type 0
IsRangeOf rs n (Some r) = Contains rs r × IsIn n r
IsRangeOf rs n None = All (λ r. IsIn n r → ⊥) rs
