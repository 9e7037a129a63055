-- Sorted places, by which the items of a list are looked up.
use Rattle.std.specs.Prelude.{◌≡◌, ℕ, ℤ, pos, ◌<◌, ◌≤◌, List, [], Option, None, Some, All, length, slice_index_or, string_bytes, String}
use Rattle.std.specs.declared.cmp.Ordering.{Ordering}
use Rattle.std.specs.declared.cmp.Ordering.TheVariants.{Less}
use Rattle.std.specs.Ordering.{ordering_then, int_cmp, nat_cmp}
use Rattle.std.specs.Cmp.Lexicographic.{slice_cmp}
use Rattle.std.specs.List.{AllAdjacentBelow}
use Rattle.std.specs.declared.alloc.Global.{Global}
use Rattle.reflect_tables.specs.declared.keys.By.{By}
use Rattle.reflect_tables.specs.declared.keys.By.TheVariants as by
use Rattle.reflect_tables.specs.declared.keys.Key.{Key}
use Rattle.reflect_tables.specs.declared.stored.StoredField.{StoredField}
use Rattle.reflect_tables.specs.declared.stored.StoredValue.{StoredValue}

-- a number, and behind it a text
abbrev pub KeyType : Type 0
KeyType = ℤ × List ℕ

abbrev pub key_view : Key → KeyType
key_view k = (k.number, k.text.now)

abbrev pub no_key : KeyType
no_key = (pos 0, [])

-- by the number, and where that is equal by the text
abbrev pub key_order : KeyType → KeyType → Ordering
key_order a b = ordering_then (int_cmp a.0 b.0) (slice_cmp nat_cmp a.1 b.1)

-- a JSON name that was not written differs from each that was
abbrev pub json_key : Option (String Global) → KeyType
json_key None = no_key
json_key (Some name) = (pos 1, string_bytes name)

abbrev pub field_key : By → StoredField → KeyType
field_key by.Number f = (pos f.number, [])
field_key by.Name f = (pos 0, string_bytes f.name)
field_key by.JsonName f = json_key f.json_name

abbrev pub value_key : By → StoredValue → KeyType
value_key by.Number v = (v.number, [])
value_key by.Name v = (pos 0, string_bytes v.name)
value_key by.JsonName v = (pos 0, string_bytes v.name)

abbrev pub key_at : List KeyType → ℕ → KeyType
key_at keys place = slice_index_or keys place no_key

-- each place has a lower key than the next
abbrev pub IsAscending : List KeyType → List ℕ → Type 0
IsAscending keys places = AllAdjacentBelow (λ a b. key_order (key_at keys a) (key_at keys b) ≡ Less)
    places (length places)

-- not without a place of the same key that is not behind this one
abbrev pub IsListed : List KeyType → List ℕ → ℕ → Type 0
IsListed keys places place = ((i d : ℕ) → i < length places
    → key_at keys (slice_index_or places i d) ≡ key_at keys place → slice_index_or places i d
    ≤ place → ⊥) → ⊥

-- the places of the first item of each key, by ascending key
abbrev pub IsIndex : List KeyType → List ℕ → Type 0
IsIndex keys places = All (λ p. p < length keys) places
    × (IsAscending keys places × ((place : ℕ) → place < length keys → IsListed keys places place))
