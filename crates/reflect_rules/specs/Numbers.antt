-- The rules of the numbers of fields and extensions, and of the oneofs of fields.
use Rattle.std.specs.Prelude.{ℕ, ℤ, pos, negsuc, List, [], ◌∷◌, ◌++◌, Bool, false, not, ◌&&◌, cond, nat_le, Option, Some, None}
use Rattle.reflect_faults.specs.Faults.{Fault, invalid_number, reserved_number, number_of_extensions, no_extension_number, bad_oneof_index}
use Rattle.reflect_names.specs.Names.{Places}
use Rattle.reflect_scope.specs.FileIndexes.{is_index}
use Rattle.reflect_tables.specs.Ranges.{Range}

-- 1 to 536,870,911, but for those that protobuf keeps for itself, 19,000 to 19,999
abbrev pub is_field_number : ℤ → Bool
is_field_number (pos n) = nat_le 1 n && nat_le n 536870911 && not (nat_le 19000 n && nat_le n 19999)
is_field_number (negsuc n) = false

abbrev pub number_faults : Places → List ℤ → ℤ → List Fault
number_faults at path n = cond (is_field_number n) []
    (invalid_number n (at (path ++ (pos 3 ∷ []))) ∷ [])

-- a number in one of the message's reserved ranges
abbrev pub reserved_faults : Places → List ℤ → ℤ → Option Range → List Fault
reserved_faults at path n None = []
reserved_faults at path n (Some r) = reserved_number n r (at (path ++ (pos 3 ∷ []))) ∷ []

-- a field's number in one of the ranges that its message keeps for extensions
abbrev pub kept_faults : Places → List ℤ → ℤ → Option Range → List Fault
kept_faults at path n None = []
kept_faults at path n (Some r) = number_of_extensions n r (at (path ++ (pos 3 ∷ []))) ∷ []

-- an extension's number in none of those ranges
abbrev pub outside_faults : Places → List ℤ → ℤ → List ℕ → Option Range → List Fault
outside_faults at path n message None = no_extension_number n message (at (path ++ (pos 3 ∷ [])))
    ∷ []
outside_faults at path n message (Some r) = []

-- the index of a oneof that its message does not have
abbrev pub oneof_faults : Places → List ℤ → ℕ → Option ℤ → List Fault
oneof_faults at path count None = []
oneof_faults at path count (Some i) =
    cond (is_index i count) [] (bad_oneof_index i (at (path ++ (pos 9 ∷ []))) ∷ [])
