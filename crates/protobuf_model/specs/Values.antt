-- What messages hold: a finite map from numbers to contents, as a function.
use Rattle.std.specs.Prelude.{ℕ, ℤ, Bool, List, [], ◌∷◌}
use Rattle.reflect_wire.specs.Records.{Payload}

-- a value that is no message
pub data Single : Type 0 where
  truth : Bool → Single
  int32 : ℤ → Single
  int64 : ℤ → Single
  uint32 : ℕ → Single
  uint64 : ℕ → Single
  text : List ℕ → Single
  blob : List ℕ → Single
  enumerated : ℤ → Single

mutual
  -- what a field holds that is set
  pub data Content : Type 0 where
    single : Single → Content
    message : (ℕ → Held) → Content
    list : Contents → Content
    dictionary : Entries → Content

  -- what stands under a number: a content, or the records that are kept of a number that no field
  -- has; without records it is unset
  pub data Held : Type 0 where
    content : Content → Held
    records : List Payload → Held

  pub data Contents : Type 0 where
    no_contents : Contents
    more_contents : Content → Contents → Contents

  pub data Entries : Type 0 where
    no_entries : Entries
    more_entries : Single → Content → Entries → Entries

abbrev pub Message : Type 0
Message = ℕ → Held

abbrev pub absent : Held
absent = records []

-- the message in which nothing is set
abbrev pub nothing : Message
nothing = λ n. absent

-- chains as lists, and back
abbrev pub list_of : Contents → List Content
list_of no_contents = []
list_of (more_contents c cs) = c ∷ list_of cs

abbrev pub chain_of : List Content → Contents
chain_of [] = no_contents
chain_of (c ∷ cs) = more_contents c (chain_of cs)

abbrev pub pairs_of : Entries → List (Single × Content)
pairs_of no_entries = []
pairs_of (more_entries k c es) = (k, c) ∷ pairs_of es

abbrev pub entries_of : List (Single × Content) → Entries
entries_of [] = no_entries
entries_of (e ∷ es) = more_entries e.0 e.1 (entries_of es)
