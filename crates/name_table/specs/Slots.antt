-- What the two parts of a table hold at a name.
use Rattle.std.specs.declared.alloc.Global.{Global}
use Rattle.std.specs.Prelude.{◌≡◌, ℕ, List, true, false, cond, Option, Some, None, is_some, string_bytes, String}
use Rattle.std.specs.declared.cmp.Ordering.{Ordering}
use Rattle.std.specs.Ordering.{nat_cmp, on}
use Rattle.std.specs.Str.{bytes_eq}
use Rattle.std.specs.BTreeMap.{BTreeMap, get, get_by_text}
use Rattle.name_table.specs.Hash.{hash_of}
use Rattle.name_table.specs.declared.key.NameHash.{NameHash}
use Rattle.name_table.specs.declared.slot.Slot.{Slot}

-- the order of the hashes
abbrev pub by_bits : NameHash → NameHash → Ordering
by_bits = on (λ h. h.bits) nat_cmp

-- the hash of a name, as a key
abbrev pub key_of : List ℕ → NameHash
key_of t = record { bits = hash_of t }

module _ {V : Type 0} where
  -- the value of a slot, if its name is this one
  abbrev pub of_name : List ℕ → Slot V → Option V
  of_name t slot = cond (bytes_eq (string_bytes slot.name) t) (Some slot.value) None

  -- what stands for a name under its hash
  abbrev pub in_slots : BTreeMap NameHash (Slot V) → List ℕ → Option V
  in_slots slots t = elim (get by_bits slots (key_of t))
      [ None ↦ None | Some slot ↦ of_name t slot ]

  -- what a name stands for: under its hash, or else among the names whose hash another name has
  abbrev pub in_both : BTreeMap NameHash (Slot V) → BTreeMap (String Global) V → List ℕ → Option V
  in_both slots crowded t = elim (in_slots slots t)
      [ None ↦ get_by_text crowded t | Some v ↦ Some v ]

  -- no name is in both parts
  abbrev pub AreApart : BTreeMap NameHash (Slot V) → BTreeMap (String Global) V → Type 0
  AreApart slots crowded = (t : List ℕ) → is_some (in_slots slots t) ≡ true
      → is_some (get_by_text crowded t) ≡ false
