-- Maps that values are put into (protobuf.dev, "Encoding", Maps: of equal keys the last one
-- counts).
use Rattle.std.specs.Prelude.{◌≡◌, List, [], ◌∷◌, ◌++◌, Option, None, Some, MatchOption}
use Rattle.std.specs.BTreeMap.{insert_entry}
use Rattle.reflect_message.specs.Maps.{entries_held, key_order}
use Rattle.reflect_message.specs.Names.{Value}
use Rattle.reflect_extend.specs.Gives.{Entry, GivesOneEntry}

-- the entry, if there is one, over what stood under an equal key
abbrev pub with_given : List Entry → Option Entry → List Entry
with_given es None = es
with_given es (Some e) = insert_entry key_order es e.0 e.1

-- the value puts the entry that it gives; one that gives none is passed over
abbrev pub Puts : List Entry → List Entry → Value → Type 0
Puts old new v = (given : Option Entry) × GivesOneEntry v given × (new ≡ with_given old given)

-- the values do so one behind the other
abbrev pub PutsAll : List Entry → List Entry → List Value → Type 0
PutsAll old new [] = new ≡ old
PutsAll old new (v ∷ vs) = (between : List Entry) × Puts old between v × PutsAll between new vs

-- so many of them as were reached do so
abbrev pub PutsFront : List Entry → List Entry → List Value → Type 0
PutsFront old new vs = (front behind : List Value) × (vs ≡ front ++ behind) × PutsAll old new front

-- the entries of a map, none where nothing stood, are changed so; a value that is no map stays
abbrev pub ChangesMap : (List Entry → List Entry → Type 0) → Option Value → Option Value → Type 0
ChangesMap R old new = MatchOption (entries_held old) (new ≡ old)
    (λ before. (after : List Entry) × (entries_held new ≡ Some after) × R before after)

-- the values put their entries into a map
abbrev pub PutsEntries : Option Value → Option Value → List Value → Type 0
PutsEntries old new vs = ChangesMap (λ before after. PutsAll before after vs) old new

-- the first of them do, and the others are not put
abbrev pub PutsSome : Option Value → Option Value → List Value → Type 0
PutsSome old new vs = ChangesMap (λ before after. PutsFront before after vs) old new
