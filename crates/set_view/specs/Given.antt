-- Entries that values give to a map, and which of them suit it.
use Rattle.std.specs.Prelude.{◌≡◌, ℕ, suc, List, [], ◌∷◌, Option, None, Some}
use Rattle.protobuf_model.specs.Scalars.{Suits}
use Rattle.protobuf_model.specs.Typed.{IsEntryOf, IsTyped}
use Rattle.protobuf_model.specs.Values.{Content, Single}
use Rattle.reflect_extend.specs.Gives.{Entry, GivesOneEntry}
use Rattle.reflect_message.specs.Messages.{message_in}
use Rattle.reflect_message.specs.Names.{DynamicMessage, Value}
use Rattle.reflect_scalar.specs.Keys.{key_view}
use Rattle.reflect_tables.specs.Types.{FieldType, PoolType}
use Rattle.message_view.specs.Shaped.{FitsEntry, FitsOne, Shaped}
use Rattle.message_view.specs.Singles.{scalar_of, single_view}
use Rattle.message_view.specs.Types.{entry_part, key_of, name_at, part_of, types_of, values_of}
use Rattle.message_view.specs.Views.{content_view, view}

-- an entry in the words of the model
abbrev pub entry_view : Entry → Single × Content
entry_view e = (single_view (key_view e.0), content_view e.1)

-- its key is of the kind of the map's keys
abbrev pub HasKey : PoolType → FieldType → Entry → Type 0
HasKey pool f e = Suits (scalar_of (entry_part pool f 1).kind) (single_view (key_view e.0))

-- what the value gives, if it gives an entry, has a value that suits the map, where `inner` holds
-- of the messages inside
abbrev pub GivesFitting : (DynamicMessage → Type 0) → PoolType → FieldType → Value → Type 0
GivesFitting inner pool f v = (e : Entry) → GivesOneEntry v (Some e) → FitsEntry inner pool f e

-- and has such a key
abbrev pub GivesKeyed : PoolType → FieldType → Value → Type 0
GivesKeyed pool f v = (e : Entry) → GivesOneEntry v (Some e) → HasKey pool f e

-- and suits the map, in messages of so many levels at most
abbrev pub GivesSuiting : ℕ → PoolType → FieldType → Value → Type 0
GivesSuiting depth pool f v = (e : Entry) → GivesOneEntry v (Some e)
    → IsEntryOf (IsTyped depth (types_of pool)) (key_of pool (entry_part pool f 1))
    (part_of pool (values_of pool f)) (entry_view e)

-- the value is a message in shape, of the type of the map's entries, and suits this type: there are
-- so many levels below the message that its value may be, by its shape and by its type
pub record SuitsEntries (levels depth : ℕ) (pool : PoolType) (f : FieldType)
    (v : Value) : Type 0 where
  pub shape : FitsOne (Shaped (suc (suc levels))) pool f v
  pub type : (m : DynamicMessage) → message_in v ≡ Some m
      → IsTyped (suc depth) (types_of pool) (name_at pool m.descriptor.index) (view m)

-- an entry, if there is one, in front of others
abbrev pub in_front : Option Entry → List Entry → List Entry
in_front None es = es
in_front (Some e) es = e ∷ es

-- the entries that values give, one behind the other
abbrev pub AreGiven : List Value → List Entry → Type 0
AreGiven [] es = es ≡ []
AreGiven (v ∷ vs) es =
    (given : Option Entry) × (rest : List Entry) × GivesOneEntry v given × AreGiven vs rest
    × (es ≡ in_front given rest)
