-- Extensions of one message that have one number.
use Rattle.std.specs.Prelude.{◌+◌, ℕ, ℤ, pos, List, [], ◌∷◌, ◌++◌, Bool, ◌||◌, ◌&&◌, ◌==◌, cond, Some, is_some}
use Rattle.std.specs.BTreeMap.{BTreeMap, get}
use Rattle.std.specs.List.{list_any}
use Rattle.std.specs.Int.{w32, cast_signed}
use Rattle.reflect_faults.specs.Faults.{Fault, Place, duplicate_extension}
use Rattle.reflect_tables.specs.declared.stored.StoredExtension.{StoredExtension}
use Rattle.reflect_tables.specs.ExtensionNumbers.{KeyType, key_cmp, Numbers}
use Rattle.reflect_rules.specs.TypesSay.{TypesSay}

abbrev pub has_key : KeyType → StoredExtension → Bool
has_key k x = x.extendee == k.0 && x.field.number == k.1

-- an extension has the message and the number
abbrev pub is_known : BTreeMap KeyType ℕ → KeyType → Bool
is_known numbers k = is_some (get key_cmp numbers k)

-- the first extension of a message and a number stays
abbrev pub with_number : Numbers → ℕ → StoredExtension → Numbers
with_number known i x = cond (is_some (known (x.extendee, x.field.number))) known
    (λ k. cond (has_key k x) (Some i) (known k))

-- the places behind extensions, the first of which has this one
abbrev pub with_numbers : Numbers → ℕ → List StoredExtension → Numbers
with_numbers known i [] = known
with_numbers known i (x ∷ xs) = with_numbers (with_number known i x) (i + 1) xs

-- a known extension has them, or one of these
abbrev pub is_taken : (KeyType → Bool) → List StoredExtension → KeyType → Bool
is_taken known xs k = known k || list_any (has_key k) xs

-- the fault of an extension whose message and number are taken
abbrev pub double_faults : (KeyType → Bool) → TypesSay → (ℕ → List ℤ → Place) → StoredExtension
    → List Fault
double_faults taken types at x =
    cond (taken (x.extendee, x.field.number))
    (duplicate_extension (cast_signed w32 x.field.number) (types.name x.extendee)
    (at x.file (x.field.path.items ++ (pos 3 ∷ []))) ∷ []) []

-- the faults of extensions, each of which is known to those behind it
abbrev pub extension_faults : (KeyType → Bool) → TypesSay → (ℕ → List ℤ → Place)
    → List StoredExtension → List Fault
extension_faults known types at [] = []
extension_faults known types at (x ∷ xs) = double_faults known types at x
    ++ extension_faults (λ k. known k || has_key k x) types at xs
