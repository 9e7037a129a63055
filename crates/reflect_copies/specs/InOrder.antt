-- Values and messages that hold what they do by ascending numbers, at each depth.
use Rattle.std.specs.Prelude.{ℕ, Bool, true, ◌&&◌, List, [], ◌∷◌, nat_lt, IsTrue}
use Rattle.std.specs.List.{list_all}
use Rattle.reflect_pool.specs.declared.message.MessageDescriptor.{MessageDescriptor}
use Rattle.reflect_scalar.specs.declared.map_key.MapKey.{MapKey}
use Rattle.reflect_message.specs.Names.{DynamicMessage, Held, Parts, Value}
use Rattle.reflect_message.specs.declared.parts.HeldOf.TheFolds.{fold-HeldOf, fold-ValueOf}
use Rattle.reflect_message.specs.declared.parts.HeldOf.TheOpen.{HeldOf-F, PartsOf-F, ValueOf-F, MessageOf-F}

-- each number is below those behind it
abbrev pub ascends : {V : Type 0} → List (ℕ × V) → Bool
ascends [] = true
ascends (e ∷ es) = list_all (λ d. nat_lt e.0 d.0) es && ascends es

-- one level of entries: their numbers ascend, and each value is in order
abbrev pub entries_order : List (ℕ × Bool) → Bool
entries_order es = ascends es && list_all (λ e. e.1) es

-- one level of what a message holds
abbrev pub held_order : HeldOf-F MessageDescriptor Bool Bool Bool Bool → Bool
held_order HeldOf-F.Nothing = true
held_order (HeldOf-F.Block b) = b.value

-- one level of its parts
abbrev pub parts_order : PartsOf-F MessageDescriptor Bool Bool Bool Bool → Bool
parts_order p = entries_order p.fields && entries_order p.extensions

-- one level of a value
abbrev pub value_order : ValueOf-F MessageDescriptor Bool Bool Bool Bool → Bool
value_order (ValueOf-F.Message m) = m
value_order (ValueOf-F.List vs) = list_all (λ v. v) vs.items
value_order (ValueOf-F.Map es) = list_all (λ e. e.1) es.entries
value_order v = true

-- one level of a message
abbrev pub message_order : MessageOf-F MessageDescriptor Bool Bool Bool Bool → Bool
message_order m = m.held

-- the messages in a value are in order
abbrev pub in_order : Value → Bool
in_order = fold-ValueOf MessageDescriptor Bool Bool Bool Bool held_order value_order message_order
    parts_order

-- what a message holds is in order
abbrev pub held_in_order : Held → Bool
held_in_order = fold-HeldOf MessageDescriptor Bool Bool Bool Bool held_order value_order
    message_order parts_order

-- values stand under ascending numbers, and each is in order
abbrev pub entries_in_order : List (ℕ × Value) → Bool
entries_in_order es = ascends es && list_all (λ e. in_order e.1) es

-- so do fields, and so do extensions
abbrev pub parts_in_order : Parts → Bool
parts_in_order p = entries_in_order p.fields && entries_in_order p.extensions

-- the values of a list are in order
abbrev pub items_in_order : List Value → Bool
items_in_order = list_all in_order

-- the values of a map are in order
abbrev pub map_in_order : List (MapKey × Value) → Bool
map_in_order = list_all (λ e. in_order e.1)

-- the message's fields and its extensions ascend, and so do those of each message inside it
abbrev pub IsInOrder : DynamicMessage → Type 0
IsInOrder m = IsTrue (held_in_order m.held)
