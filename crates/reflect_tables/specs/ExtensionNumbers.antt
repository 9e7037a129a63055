-- The places of extensions by the messages that they extend and their numbers there.
use Rattle.std.specs.Prelude.{◌≡◌, ◌<◌, ℕ, Option, Some}
use Rattle.std.specs.declared.cmp.Ordering.{Ordering}
use Rattle.std.specs.Ordering.{nat_cmp, ordering_then}
use Rattle.std.specs.BTreeMap.{BTreeMap, get}

-- a message and a number
abbrev pub KeyType : Type 0
KeyType = ℕ × ℕ

abbrev pub key_cmp : KeyType → KeyType → Ordering
key_cmp a b = ordering_then (nat_cmp a.0 b.0) (nat_cmp a.1 b.1)

-- the places of extensions, by their messages and numbers
abbrev pub Numbers : Type 0
Numbers = KeyType → Option ℕ

abbrev pub numbers_of : BTreeMap KeyType ℕ → Numbers
numbers_of m = λ k. get key_cmp m k

-- a place below the mark is that of a message and a number in both or in neither
abbrev pub KeepsNumbers : ℕ → Numbers → Numbers → Type 0
KeepsNumbers mark old new = (k : KeyType) (i : ℕ) → i < mark → (old k ≡ Some i → new k ≡ Some i)
    × (new k ≡ Some i → old k ≡ Some i)
