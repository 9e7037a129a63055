-- Records in sets by their numbers, and how they divide at a number.
use Rattle.std.specs.Prelude.{◌≡◌, ◌≢◌, ℕ, List, [], ◌∷◌, ◌++◌, map, nat_lt, nat_le}
use Rattle.std.specs.List.{AllByRecursion, filter, flat_map}
use Rattle.reflect_wire.specs.Records.{Payload}
use Rattle.reflect_wire.specs.Views.{field_view, fields_of}
use Rattle.reflect_wire.specs.declared.unknown.UnknownFieldSet.{UnknownFieldSet}

-- the records of a set, as they came
abbrev pub set_records : UnknownFieldSet → List (ℕ × Payload)
set_records s = map field_view (fields_of s)

-- those of all sets, one behind the other
abbrev pub records_in : List (ℕ × UnknownFieldSet) → List (ℕ × Payload)
records_in sets = flat_map (λ e. set_records e.1) sets

-- a set that stands under a number has records, all of that number
abbrev pub IsSetOf : ℕ → List (ℕ × Payload) → Type 0
IsSetOf number records = (records ≢ []) × AllByRecursion (λ r. r.0 ≡ number) records

abbrev pub AreGrouped : List (ℕ × UnknownFieldSet) → Type 0
AreGrouped sets = AllByRecursion (λ e. IsSetOf e.0 (set_records e.1)) sets

-- the records of numbers up to one, and of those above it
abbrev pub up_to : ℕ → List (ℕ × Payload) → List (ℕ × Payload)
up_to number records = filter (λ r. nat_le r.0 number) records

abbrev pub above : ℕ → List (ℕ × Payload) → List (ℕ × Payload)
above number records = filter (λ r. nat_lt number r.0) records

-- with one more, behind those of its number
abbrev pub with_record : List (ℕ × Payload) → ℕ × Payload → List (ℕ × Payload)
with_record records r = up_to r.0 records ++ r ∷ above r.0 records
