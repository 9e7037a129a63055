-- How files use the types of maps' entries that they declare, and what a pool has of these.
use Rattle.std.specs.Prelude.{◌≡◌, List, true, is_some, map, Contains}
use Rattle.descriptor_records.specs.Content.{Text, FileContent, file_view}
use Rattle.reflect_tables.specs.Types.{MessageType, PoolType}
use Rattle.schema_view.specs.Declarations.{MessageFacts, of_message, Declaration, declarations}
use Rattle.schema_view.specs.Lawful.{IsOneMap}
use Rattle.schema_view.specs.Rules.{SaysEntry}

-- each is the type of one of their fields or extensions, which is a map
abbrev pub HaveOneUse : List FileContent → Type 0
HaveOneUse fs = (f : FileContent) (d : Declaration) (m : MessageFacts)
    → Contains fs f → Contains (declarations f) d → d.body ≡ of_message m → SaysEntry m.options
    → IsOneMap fs d.name

-- files declare the type of a map's entries under the name
pub record DeclaresEntry (fs : List FileContent) (full : Text) : Type 0 where
  pub file : FileContent
  pub message : Declaration
  pub facts : MessageFacts
  pub there : Contains fs file
  pub inside : Contains (declarations file) message
  pub name : message.name ≡ full
  pub body : message.body ≡ of_message facts
  pub says : SaysEntry facts.options

-- a message of the records that says that it is the type of a map's entries has the parts of one
-- among the pool's types
abbrev pub TellsEntries : PoolType → Type 0
TellsEntries p = (f : FileContent) (d : Declaration) (m : MessageFacts)
    → Contains (map file_view p.records) f → Contains (declarations f) d → d.body ≡ of_message m
    → SaysEntry m.options
    → (t : MessageType) × Contains p.messages t × (t.full_name ≡ d.name) × (is_some t.entry ≡ true)

-- and back: what has the parts of one among the pool's types is declared so by the records
abbrev pub HasDeclaredEntries : PoolType → Type 0
HasDeclaredEntries p = (t : MessageType) → Contains p.messages t → is_some t.entry ≡ true
    → DeclaresEntry (map file_view p.records) t.full_name
