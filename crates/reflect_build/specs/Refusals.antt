-- Why files are refused: the faults of the first pass that finds any.
use Rattle.std.specs.Prelude.{◌≡◌, ◌⊎◌, ◌++◌, ℕ, ◌+◌, ◌^◌, ◌≤◌, sum_by, List, [], Bool, true, not, Some, None, is_some, map, length, filter, string_bytes, String}
use Rattle.std.specs.declared.alloc.Global.{Global}
use Rattle.std.specs.BTreeMap.{BTreeMap}
use Rattle.std.specs.Bool.{Decides}
use Rattle.std.specs.List.{Contains}
use Rattle.descriptor_records.specs.declared.file.FileDescriptorProto.{FileDescriptorProto}
use Rattle.name_table.specs.declared.table.NameTable.{NameTable}
use Rattle.reflect_scope.specs.declared.definition.Definition.{Definition}
use Rattle.reflect_scope.specs.declared.seen.Links.{Links}
use Rattle.reflect_declarations.specs.Batches.{batch_declarations}
use Rattle.reflect_declarations.specs.declared.offsets.Offsets.{Offsets}
use Rattle.reflect_faults.specs.Faults.{Fault, batch_places}
use Rattle.reflect_scope.specs.FileIndexes.{Indexes, indexes_of, link_view}
use Rattle.reflect_names.specs.FileNames.{with_files}
use Rattle.reflect_names.specs.ImportedFiles.{links_to}
use Rattle.reflect_scope.specs.Known.{Known, known_of}
use Rattle.reflect_known.specs.KnownNames.{known_behind, known_of_files, counts_of_files}
use Rattle.reflect_names.specs.ReferencePass.{BatchReferences}
use Rattle.reflect_names.specs.ReferenceSteps.{target_of}
use Rattle.reflect_names.specs.declared.resolve_visitor.Reference.{Reference}
use Rattle.reflect_index.specs.BatchEntries.{IsBatchOf}
use Rattle.reflect_index.specs.DraftNames.{stored_message_name, stored_enum_name, stored_extension_name}
use Rattle.reflect_tables.specs.Names.{AreNamed, names_of, messages, enums, extensions}
use Rattle.reflect_known.specs.DeclaredNames.{with_names}
use Rattle.reflect_tables.specs.Types.{PoolType}
use Rattle.reflect_tables.specs.Views.{pool_of}
use Rattle.reflect_index.specs.OfDeclarations.{AllDeclared, messages_in, enums_in, stored_ranges, stored_values, declared_values}
use Rattle.reflect_tables.specs.declared.tables.Tables.{Tables}
use Rattle.reflect_tables.specs.ExtensionNumbers.{KeyType}
use Rattle.reflect_passes.specs.Errors.{ListsFaults, is_too_many}
use Rattle.reflect_passes.specs.Extensions.{is_known}
use Rattle.reflect_passes.specs.NameFaults.{name_faults, ReferenceFaults}
use Rattle.reflect_passes.specs.NumberFaults.{NumberFaults, doubled}
use Rattle.reflect_passes.specs.declared.error.DescriptorError.{DescriptorError}
use Rattle.reflect_passes.specs.declared.linked_types.LinkedTypes.{LinkedTypes}
use Rattle.reflect_pool.specs.Imports.{imported_places, names_of_files}
use Rattle.reflect_pool.specs.Linked.{AreIndexed, key_of}
use Rattle.reflect_pool.specs.Stored.{AreStored}
use Rattle.reflect_build.specs.Many.{in_file, entries_of}

-- how many of each sort there are
pub record CountsOf (p : PoolType) (o : Offsets) : Type 0 where
  pub messages : o.messages ≡ length p.messages
  pub enums : o.enums ≡ length p.enums
  pub extensions : o.extensions ≡ length p.extensions
  pub services : o.services ≡ length p.services

-- what files are linked with: known files and names, what files import, entries, numbers of
-- extensions, and how much there is
pub record Linking : Type 0 where
  pub indexes : Indexes
  pub known : Known
  pub links : List Links
  pub tables : Tables
  pub numbers : KeyType → Bool
  pub before : Offsets
  pub first : ℕ

abbrev pub linking : BTreeMap (String Global) ℕ → NameTable Definition → List Links
    → Tables → BTreeMap KeyType ℕ → Offsets → ℕ → Linking
linking file_names names links tables numbers before first =
    record {
      indexes = indexes_of file_names;
      known = known_of names;
      links = links;
      tables =
          tables;
      numbers = is_known numbers;
      before = before;
      first = first;
    }

-- the same, with the names of the files
abbrev pub with_declared : Linking → List FileDescriptorProto → Linking
with_declared w fs = record w {
  indexes = with_files w.indexes w.first fs;
  known =
      known_behind w.known (batch_declarations w.before w.first fs);
}

-- the links of the files stand behind the others
abbrev pub AreLinked : Linking → List FileDescriptorProto → List Links → Type 0
AreLinked w fs links = map link_view links ≡ map link_view w.links ++ map (links_to w.indexes) fs

-- each reference of the files means this
pub record ReferencesMean (w : Linking) (fs : List FileDescriptorProto)
    (references : List Reference) : Type 0 where
  pub links : List Links
  pub linked : AreLinked w fs links
  pub right : BatchReferences w.known links (batch_places fs w.first) w.before w.first fs
      (map target_of references) []

-- the types of the pool, and behind them those of the files, whose references mean this: of the
-- declared names, ranges and values, and each entry that of its declaration
pub record AreTypes (w : Linking) (fs : List FileDescriptorProto) (rs : List Reference)
    (t : LinkedTypes) : Type 0 where
  pub old : t.old.now ≡ w.tables
  pub messages : map stored_message_name t.new.now.messages.items
      ≡ with_names messages [] (batch_declarations w.before w.first fs)
  pub ranges : AllDeclared (messages_in (batch_declarations w.before w.first fs))
      (map stored_ranges t.new.now.messages.items)
  pub enums : map stored_enum_name t.new.now.enums.items
      ≡ with_names enums [] (batch_declarations w.before w.first fs)
  pub values : map stored_values t.new.now.enums.items
      ≡ map declared_values (enums_in (batch_declarations w.before w.first fs))
  pub extensions : map stored_extension_name t.new.now.extensions.items
      ≡ with_names extensions [] (batch_declarations w.before w.first fs)
  pub entries : IsBatchOf rs w.before w.first (batch_declarations w.before w.first fs) t.new.now

-- the faults of references that mean nothing of the kind that they need
abbrev pub FaultyReferences : Linking → List FileDescriptorProto → List Fault → Type 0
FaultyReferences w fs xs = (links : List Links) × AreLinked w fs links
    × ReferenceFaults w.known links w.before w.first fs xs

-- where all of them mean something, the faults by the rules of numbers
abbrev pub FaultyNumbers : Linking → List FileDescriptorProto → List Fault → Type 0
FaultyNumbers w fs xs = (rs : List Reference) × (t : LinkedTypes) × ReferencesMean w fs rs
    × AreTypes w fs rs t × NumberFaults t w.before w.first fs rs xs

-- where there are none, the extensions whose message and number are taken
abbrev pub FaultyExtensions : Linking → List FileDescriptorProto → List Fault → Type 0
FaultyExtensions w fs xs =
    (rs : List Reference) × (t : LinkedTypes) × ReferencesMean w fs rs × AreTypes w fs rs t
    × NumberFaults t w.before w.first fs rs []
    × (xs ≡ doubled w.numbers t (batch_places fs w.first))

-- the faults of files whose names are declared
abbrev pub FaultyBatch : Linking → List FileDescriptorProto → List Fault → Type 0
FaultyBatch w fs xs = FaultyReferences w fs xs ⊎ (FaultyNumbers w fs xs ⊎ FaultyExtensions w fs xs)

-- the faults of the files' names, or where there are none those of a later pass
abbrev pub Faulty : Linking → List FileDescriptorProto → List Fault → Type 0
Faulty w fs xs = (xs ≡ name_faults w.indexes w.known w.before w.first fs)
    ⊎ ((name_faults w.indexes w.known w.before w.first fs ≡ [])
    × FaultyBatch (with_declared w fs) fs xs)

-- what a pool is linked with: its entries, their names and those of its files, what its files
-- import, and the numbers of its extensions; what is known, what is stored of its messages, and how
-- much there is, is what the records of its files give
pub record IsOf (p : PoolType) (w : Linking) : Type 0 where
  pub tables : pool_of w.tables ≡ p
  pub named : AreNamed w.known (names_of p)
  pub files : AreIndexed w.indexes (names_of_files p.files)
  pub links : map link_view w.links ≡ map (imported_places w.indexes) p.files
  pub numbers : (k : KeyType) → Decides (w.numbers k) (Contains (map key_of p.extensions) k)
  pub before : CountsOf p w.before
  pub first : w.first ≡ length p.files
  pub known : w.known ≡ known_of_files p.records
  pub counts : w.before ≡ counts_of_files p.records
  pub stored : AreStored p.records w.tables.messages.items

-- the files whose names are not known
abbrev pub is_unknown : Indexes → FileDescriptorProto → Bool
is_unknown indexes f = elim f.name
    [ None ↦ true | Some s ↦ not (is_some (indexes (string_bytes s))) ]

abbrev pub new_files : Indexes → List FileDescriptorProto → List FileDescriptorProto
new_files indexes fs = filter (is_unknown indexes) fs

-- the faults of files that a pool has not yet
abbrev pub FaultyFiles : PoolType → List FileDescriptorProto → List Fault → Type 0
FaultyFiles p fs xs = (w : Linking) × IsOf p w × Faulty w (new_files w.indexes fs) xs

-- what a pool has, and what the files declare that it has not yet, is more than an index of 31 bits
-- tells
abbrev pub AreTooMany : PoolType → List FileDescriptorProto → Type 0
AreTooMany p fs = (w : Linking) × IsOf p w
    × (2 ^ 31 ≤ entries_of p + sum_by in_file (new_files w.indexes fs))

-- files are refused for the faults of the first pass that finds any, since they are too many, or
-- for want of memory
abbrev pub AreRefused : PoolType → List FileDescriptorProto → DescriptorError → Type 0
AreRefused p fs e =
    ListsFaults (FaultyFiles p fs) e × (is_too_many e.first ≡ true → AreTooMany p fs)
