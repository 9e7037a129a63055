-- Messages of which a type knows all: what they hold stands under numbers of fields, at each depth
-- (protobuf.dev, "Language Guide (proto 3)", Unknown Fields).
use Rattle.std.specs.Prelude.{◌≡◌, ℕ, List, [], Option, None, Some}
use Rattle.protobuf_model.specs.Values.{Content, single, message, list, dictionary, Contents, no_contents, more_contents, Entries, no_entries, more_entries, Held, content, records, Message}
use Rattle.protobuf_model.specs.Types.{Name, Kind, Field, Types}
use Rattle.protobuf_model.specs.Bytes.{type_of, bytes_of}
use Rattle.protobuf_model.specs.Coded.{SuitsType}

abbrev mutual
  pub KnowsContent : Types → Kind → Content → Type 0
  KnowsContent types k (single v) = Unit {0}
  KnowsContent types k (message m) = (n : ℕ) → KnowsHeld types (types (type_of k) n) (m n)
  KnowsContent types k (list cs) = KnowsContents types k cs
  KnowsContent types k (dictionary es) = KnowsEntries types k es

  pub KnowsContents : Types → Kind → Contents → Type 0
  KnowsContents types k no_contents = Unit {0}
  KnowsContents types k (more_contents c cs) = KnowsContent types k c × KnowsContents types k cs

  pub KnowsEntries : Types → Kind → Entries → Type 0
  KnowsEntries types k no_entries = Unit {0}
  KnowsEntries types k (more_entries key c es) =
      KnowsContent types k c × KnowsEntries types k es

  -- a number that no field has keeps no record
  pub KnowsHeld : Types → Option Field → Held → Type 0
  KnowsHeld types o (records ps) = ps ≡ []
  KnowsHeld types None (content c) = ⊥
  KnowsHeld types (Some f) (content c) = KnowsContent types f.part.kind c

abbrev pub KnowsAll : Types → Name → Message → Type 0
KnowsAll types t m = (n : ℕ) → KnowsHeld types (types t n) (m n)

-- bytes as the type writes a message that suits it, and of which it knows all
pub record AreFormOf (types : Types) (t : Name) (m : Message) (bytes : List ℕ) : Type 0 where
  pub suits : SuitsType types t m
  pub known : KnowsAll types t m
  pub written : bytes ≡ bytes_of types t m
