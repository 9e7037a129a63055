-- What values and messages hold, without where it lies in memory.
use Rattle.std.specs.Prelude.{ℕ, map, List, [], ◌∷◌, Option, None, Some, option_map, string_bytes}
use Rattle.reflect_entries.specs.Entries.{value_at}
use Rattle.reflect_entries.specs.Undeclared.{undeclared}
use Rattle.reflect_pool.specs.declared.message.MessageDescriptor.{MessageDescriptor}
use Rattle.reflect_wire.specs.Records.{Payload}
use Rattle.reflect_scalar.specs.Keys.{key_view}
use Rattle.reflect_scalar.specs.Singles.{Single, truth, int32, int64, uint32, uint64, text, blob, enumerated}
use Rattle.reflect_scalar.specs.declared.map_key.MapKey.{MapKey}
use Rattle.reflect_message.specs.Names.{Held, Parts, Value}
use Rattle.reflect_message.specs.declared.parts.HeldOf.TheFolds.{fold-HeldOf, fold-ValueOf}
use Rattle.reflect_message.specs.declared.parts.HeldOf.TheOpen.{HeldOf-F, PartsOf-F, ValueOf-F, MessageOf-F}

-- a single value, a message by its type and what it holds, a list, or a map by its entries; a
-- message holds values under numbers, the chosen members of oneofs, and records of undeclared
-- numbers
mutual
  pub data ValueTree : Type 0 where
    leaf : Single → ValueTree
    branch : MessageDescriptor → MessageTree → ValueTree
    row : Row → ValueTree
    dictionary : Dictionary → ValueTree

  pub data MessageTree : Type 0 where
    parts : (fields : ℕ → Place) (choices : List (ℕ × ℕ)) (extensions : ℕ → Place)
        (unknown : List (ℕ × Payload)) → MessageTree

  pub data Place : Type 0 where
    empty : Place
    full : ValueTree → Place

  pub data Row : Type 0 where
    no_values : Row
    more_values : ValueTree → Row → Row

  pub data Dictionary : Type 0 where
    no_entries : Dictionary
    more_entries : Single → ValueTree → Dictionary → Dictionary

-- what stands under a number
abbrev pub place_of : Option ValueTree → Place
place_of None = empty
place_of (Some t) = full t

-- the values of a list
abbrev pub row_of : List ValueTree → Row
row_of [] = no_values
row_of (t ∷ ts) = more_values t (row_of ts)

-- the entries of a map, by ascending key
abbrev pub dictionary_of : List (Single × ValueTree) → Dictionary
dictionary_of [] = no_entries
dictionary_of (e ∷ es) = more_entries e.0 e.1 (dictionary_of es)

-- a message that holds nothing
abbrev pub nothing_held : MessageTree
nothing_held = parts (λ n. empty) [] (λ n. empty) []

-- one level of what a message holds
abbrev pub held_step : HeldOf-F MessageDescriptor MessageTree ValueTree ValueTree MessageTree
    → MessageTree
held_step HeldOf-F.Nothing = nothing_held
held_step (HeldOf-F.Block b) = b.value

-- one level of its parts
abbrev pub parts_step : PartsOf-F MessageDescriptor MessageTree ValueTree ValueTree MessageTree
    → MessageTree
parts_step p = parts (λ n. place_of (value_at p.fields n)) p.choices.members
    (λ n. place_of (value_at p.extensions n)) (undeclared p.unknown)

-- one level of a value
abbrev pub value_step : ValueOf-F MessageDescriptor MessageTree ValueTree ValueTree MessageTree
    → ValueTree
value_step (ValueOf-F.Bool b) = leaf (truth b)
value_step (ValueOf-F.I32 z) = leaf (int32 z)
value_step (ValueOf-F.I64 z) = leaf (int64 z)
value_step (ValueOf-F.U32 n) = leaf (uint32 n)
value_step (ValueOf-F.U64 n) = leaf (uint64 n)
value_step (ValueOf-F.String t) = leaf (text (string_bytes t))
value_step (ValueOf-F.Bytes b) = leaf (blob b.items)
value_step (ValueOf-F.EnumNumber z) = leaf (enumerated z)
value_step (ValueOf-F.Message m) = m
value_step (ValueOf-F.List vs) = row (row_of vs.items)
value_step (ValueOf-F.Map es) = dictionary
    (dictionary_of (map (λ e. (key_view e.0, e.1)) es.entries))

-- one level of a message
abbrev pub message_step : MessageOf-F MessageDescriptor MessageTree ValueTree ValueTree MessageTree
    → ValueTree
message_step m = branch m.descriptor m.held

-- a value, at each depth
abbrev pub tree : Value → ValueTree
tree = fold-ValueOf MessageDescriptor MessageTree ValueTree ValueTree MessageTree held_step
    value_step message_step parts_step

-- what a message holds, at each depth
abbrev pub held_tree : Held → MessageTree
held_tree = fold-HeldOf MessageDescriptor MessageTree ValueTree ValueTree MessageTree held_step
    value_step message_step parts_step

-- what stands under each number
abbrev pub places : List (ℕ × Value) → ℕ → Place
places entries = λ n. place_of (option_map tree (value_at entries n))

-- the parts of a message, at each depth
abbrev pub parts_tree : Parts → MessageTree
parts_tree p = parts (places p.fields) p.choices.members (places p.extensions)
    (undeclared p.unknown)

-- an entry of a map, at each depth
abbrev pub entry_tree : MapKey × Value → Single × ValueTree
entry_tree e = (key_view e.0, tree e.1)
