-- What values give as entries of a map (protobuf.dev, "Encoding", Maps). A type of entries says
-- which of its fields is the key, and which the value.
use Rattle.std.specs.Prelude.{◌≡◌, ℕ, ◌==◌, cond, List, Option, None, Some, option_map}
use Rattle.reflect_tables.specs.Types.{PoolType, FieldType, type_at, type_of_field}
use Rattle.reflect_tables.specs.declared.stored.StoredEntry.{StoredEntry}
use Rattle.reflect_scalar.specs.declared.map_key.MapKey.{MapKey}
use Rattle.reflect_entries.specs.Entries.{value_at}
use Rattle.reflect_message.specs.Held.{fields_of}
use Rattle.reflect_message.specs.MapKeys.{key_of_value}
use Rattle.reflect_message.specs.Messages.{message_in}
use Rattle.reflect_message.specs.Present.{held_if_set}
use Rattle.reflect_message.specs.Shown.{IsHeldOrDefault}
use Rattle.reflect_message.specs.Names.{DynamicMessage, Value}

abbrev pub Entry : Type 0
Entry = MapKey × Value

-- the value is what the field holds, if it is set, else the field's default
abbrev pub IsSetOrDefault : PoolType → FieldType → Option Value → Value → Type 0
IsSetOrDefault pool f held v = IsHeldOrDefault pool f (held_if_set pool f held) v

-- what stands under a number, once what stands under the first is taken out
abbrev pub left_under : ℕ → List (ℕ × Value) → ℕ → Option Value
left_under taken fields n = cond (n == taken) None (value_at fields n)

-- the key is taken out of what is held, then the value; what can be no key gives nothing
abbrev pub GivesPair : PoolType → FieldType → FieldType → List (ℕ × Value) → Option Entry → Type 0
GivesPair pool keys values fields given =
    (key value : Value) × IsSetOrDefault pool keys (value_at fields keys.number) key
    × IsSetOrDefault pool values (left_under keys.number fields values.number) value
    × (given ≡ option_map (λ k. (k, value)) (key_of_value key))

-- a message of a type of entries gives its key and its value, and one of another type nothing
abbrev pub GivesAs : PoolType → ℕ → Option StoredEntry → List (ℕ × Value) → Option Entry → Type 0
GivesAs pool i None fields given = given ≡ None
GivesAs pool i (Some e) fields given =
    GivesPair pool (type_of_field pool i e.key) (type_of_field pool i e.value) fields given

abbrev pub GivesEntry : DynamicMessage → Option Entry → Type 0
GivesEntry m given =
    GivesAs m.descriptor.pool.now m.descriptor.index
    (type_at m.descriptor.pool.now m.descriptor.index).entry (fields_of m) given

-- a value that is no message gives nothing
abbrev pub GivesIn : Option DynamicMessage → Option Entry → Type 0
GivesIn None given = given ≡ None
GivesIn (Some m) given = GivesEntry m given

abbrev pub GivesOneEntry : Value → Option Entry → Type 0
GivesOneEntry v given = GivesIn (message_in v) given
