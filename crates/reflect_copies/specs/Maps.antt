-- What is put into maps under a copy of a key.
use Rattle.std.specs.Prelude.{◌≡◌, List}
use Rattle.std.specs.BTreeMap.{insert_entry}
use Rattle.reflect_scalar.specs.Keys.{key_view}
use Rattle.reflect_scalar.specs.declared.map_key.MapKey.{MapKey}
use Rattle.reflect_message.specs.Maps.{key_order}
use Rattle.reflect_message.specs.Names.{Value}

-- the value is put under a copy of the key
abbrev pub PutsCopy : MapKey → Value → List (MapKey × Value) → List (MapKey × Value) → Type 0
PutsCopy key v old new =
    (copy : MapKey) × (key_view copy ≡ key_view key) × (new ≡ insert_entry key_order old copy v)
