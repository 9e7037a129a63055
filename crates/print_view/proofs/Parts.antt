-- The values of maps, by what their types of entries say of them.
use Rattle.std.proofs.Common.{◌≡◌, ℕ, Some}
use Rattle.reflect_tables.specs.Types.{PoolType, message, type_at, type_of_field}
use Rattle.reflect_tables.specs.declared.stored.StoredEntry.{StoredEntry}
use Rattle.reflect_message.specs.Known.{entry_field}
use Rattle.message_view.specs.Sound.{IsSound}
use Rattle.text_view.proofs.Entries.{part_found}

-- the value that a type of entries says it has is its field of number 2
abbrev pub HaveValues : PoolType → Type 0
HaveValues pool = (i : ℕ) (e : StoredEntry) → (type_at pool i).entry ≡ Some e → entry_field pool (message i) 2 ≡ Some (type_of_field pool i e.value)

pub have_values : (pool : PoolType) → IsSound pool → HaveValues pool
have_values pool sound i e is = part_found pool sound.apart i 2 e.value (sound.parts i e is).1
