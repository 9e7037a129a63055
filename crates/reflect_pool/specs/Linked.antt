-- What holds of a pool with the names of its types.
use Rattle.std.specs.Prelude.{◌≡◌, ℕ, List, [], Some, map, length, slice_get, String}
use Rattle.std.specs.declared.alloc.Global.{Global}
use Rattle.std.specs.BTreeMap.{BTreeMap}
use Rattle.name_table.specs.declared.table.NameTable.{NameTable}
use Rattle.reflect_scope.specs.declared.definition.Definition.{Definition}
use Rattle.reflect_scope.specs.declared.seen.Links.{Links}
use Rattle.reflect_scope.specs.FileIndexes.{Indexes, indexes_of, link_view}
use Rattle.reflect_scope.specs.Known.{known_of, AllBelow}
use Rattle.reflect_tables.specs.Types.{PoolType, ExtensionType, ArePooled}
use Rattle.reflect_tables.specs.Names.{Sort, AreNamed, names_of}
use Rattle.reflect_tables.specs.Views.{record_file}
use Rattle.reflect_tables.specs.ExtensionNumbers.{KeyType, Numbers, numbers_of}
use Rattle.reflect_declarations.specs.Batches.{batch_declarations}
use Rattle.reflect_known.specs.DeclaredNames.{with_names}
use Rattle.reflect_known.specs.KnownNames.{nothing_before, known_of_files}
use Rattle.reflect_tables.specs.declared.stored.StoredMessage.{StoredMessage}
use Rattle.reflect_pool.specs.AtPaths.{HaveRecords}
use Rattle.reflect_pool.specs.Imports.{ImportsAreThere, imported_places, names_of_files}
use Rattle.reflect_pool.specs.Stored.{AreStored}

-- a pool that holds nothing
abbrev pub empty_pool : PoolType
empty_pool = record {
  files = [];
  records = [];
  declared = [];
  messages = [];
  enums = [];
  extensions = [];
  services = [];
}

-- a name has an index exactly where it is the one at this place
abbrev pub AreIndexed : Indexes → List (List ℕ) → Type 0
AreIndexed indexes names = (t : List ℕ) (i : ℕ) → (indexes t ≡ Some i → slice_get names i ≡ Some t)
    × (slice_get names i ≡ Some t → indexes t ≡ Some i)

-- the message that an extension extends, and its number there
abbrev pub key_of : ExtensionType → KeyType
key_of x = (x.extendee, x.field.number)

-- a message and a number stand for a place exactly where the extension at this place has them
abbrev pub AreNumbered : Numbers → List KeyType → Type 0
AreNumbered numbers keys = (k : KeyType) (i : ℕ) → (numbers k ≡ Some i → slice_get keys i ≡ Some k)
    × (slice_get keys i ≡ Some k → numbers k ≡ Some i)

-- the names of the entries of each sort are those that the files' records declare
abbrev pub AreRecorded : PoolType → Type 0
AreRecorded p =
    (s : Sort) → names_of p s ≡ with_names s [] (batch_declarations nothing_before 0 p.records)

-- what entries name is there, a full name stands for a place exactly where it is the one at this
-- place, all names are of the pool's files, each file's name stands for the file, and each
-- extension's message and number for the extension; what files import is there, and the links are
-- to it; the files are those of the records, and what is known, the names of the entries, and what
-- is stored of the messages, is what the records give; each entry has its record
pub record IsLinked (p : PoolType) (names : NameTable Definition)
    (file_names : BTreeMap (String Global) ℕ) (places : BTreeMap KeyType ℕ)
    (links : List Links) (messages : List StoredMessage) : Type 0 where
  pub pooled : ArePooled p
  pub named : AreNamed (known_of names) (names_of p)
  pub below : AllBelow (length p.files) (known_of names)
  pub files : AreIndexed (indexes_of file_names) (names_of_files p.files)
  pub numbers : AreNumbered (numbers_of places) (map key_of p.extensions)
  pub imports : ImportsAreThere p
  pub to_imports : map link_view links ≡ map (imported_places (indexes_of file_names)) p.files
  pub known : known_of names ≡ known_of_files p.records
  pub headers : p.files ≡ map record_file p.records
  pub entries : AreRecorded p
  pub stored : AreStored p.records messages
  pub placed : HaveRecords p
