-- A slot that is put under a free hash.
use Rattle.std.specs.Prelude.{◌≡◌, Option, Some, None, IsSome}
use Rattle.std.specs.BTreeMap.{BTreeMap, get, Updates}
use Rattle.name_table.specs.Slots.{by_bits}
use Rattle.name_table.specs.declared.key.NameHash.{NameHash}
use Rattle.name_table.specs.declared.slot.Slot.{Slot}

-- the hash was free, and has the slot now; or it was not, nothing changed, and the slot comes back
abbrev pub PutsIfFree : {V : Type 0} → BTreeMap NameHash (Slot V) → BTreeMap NameHash (Slot V)
    → NameHash → Slot V → Option (Slot V) → Type 0
PutsIfFree old new hash slot None = (get by_bits old hash ≡ None)
    × Updates by_bits old new hash (Some slot)
PutsIfFree old new hash slot (Some back) = IsSome (get by_bits old hash) × (back ≡ slot)
    × ((q : NameHash) → get by_bits new q ≡ get by_bits old q)
