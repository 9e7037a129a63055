-- When files are accepted: no pass finds a fault, and their entries stand behind those of the pool.
use Rattle.std.specs.Prelude.{◌≡◌, ◌++◌, List, [], map}
use Rattle.descriptor_records.specs.Content.{file_view}
use Rattle.descriptor_records.specs.declared.file.FileDescriptorProto.{FileDescriptorProto}
use Rattle.reflect_faults.specs.Faults.{batch_places}
use Rattle.reflect_names.specs.declared.resolve_visitor.Reference.{Reference}
use Rattle.reflect_declarations.specs.Batches.{batch_declarations}
use Rattle.reflect_index.specs.Rewriting.{written}
use Rattle.reflect_tables.specs.Types.{PoolType}
use Rattle.reflect_tables.specs.Names.{Sort, names_of}
use Rattle.reflect_known.specs.DeclaredNames.{with_names}
use Rattle.reflect_known.specs.GivenNames.{names_of_file}
use Rattle.reflect_tables.specs.Views.{record_file, declared_of, message_of, enum_of, extension_of, service_of, pool_of}
use Rattle.reflect_passes.specs.NameFaults.{name_faults}
use Rattle.reflect_passes.specs.NumberFaults.{NumberFaults, doubled}
use Rattle.reflect_passes.specs.declared.linked_types.LinkedTypes.{LinkedTypes}
use Rattle.reflect_build.specs.Refusals.{Linking, with_declared, ReferencesMean, AreTypes, IsOf, new_files}

-- the records of a pool, and behind them those of further files, which give the same names
pub record AddsRecords (old : PoolType) (fs : List FileDescriptorProto) (new : PoolType) : Type 0
  where
    pub more : List FileDescriptorProto
    pub records : new.records ≡ old.records ++ more
    pub names : map names_of_file more ≡ map names_of_file fs

-- the entries of a pool, and behind them the files, what they declare outside of messages, their
-- types, and their records
pub record AreAdded (old : PoolType) (fs : List FileDescriptorProto) (t : LinkedTypes)
    (new : PoolType) : Type 0 where
  pub files : new.files ≡ old.files ++ map record_file fs
  pub declared : new.declared ≡ old.declared ++ map declared_of t.new.now.files.items
  pub messages : new.messages ≡ old.messages ++ map message_of t.new.now.messages.items
  pub enums : new.enums ≡ old.enums ++ map enum_of t.new.now.enums.items
  pub extensions : new.extensions ≡ old.extensions ++ map extension_of t.new.now.extensions.items
  pub services : new.services ≡ old.services ++ map service_of t.new.now.services.items
  pub records : AddsRecords old fs new

-- each reference of files whose names are declared means something; by these meanings the pool's
-- new entries are those of the declarations, no number is faulty, and no extension has the message
-- and the number of another; its new records are those of the files, with the names that these
-- references mean
pub record FaultlessBatch (w : Linking) (fs : List FileDescriptorProto)
    (new : PoolType) : Type 0 where
  pub references : List Reference
  pub types : LinkedTypes
  pub means : ReferencesMean w fs references
  pub declared : AreTypes w fs references types
  pub added : AreAdded (pool_of w.tables) fs types new
  pub numbers : NumberFaults types w.before w.first fs references []
  pub apart : doubled w.numbers types (batch_places fs w.first) ≡ []
  pub records : map file_view new.records
      ≡ map file_view (pool_of w.tables).records ++ written references (map file_view fs)

-- the files' names have no fault, and so it is of the rest
abbrev pub Faultless : Linking → List FileDescriptorProto → PoolType → Type 0
Faultless w fs new = (name_faults w.indexes w.known w.before w.first fs ≡ [])
    × FaultlessBatch (with_declared w fs) fs new

-- no pass finds a fault in the files that a pool has not yet, and it becomes the new one
abbrev pub FaultlessFiles : PoolType → List FileDescriptorProto → PoolType → Type 0
FaultlessFiles p fs new = (w : Linking) × IsOf p w × Faultless w (new_files w.indexes fs) new

-- a pool's files, and behind them further ones; the names of its entries of each sort, and behind
-- them those that the files declare
pub record AddsNames (w : Linking) (fs : List FileDescriptorProto) (new : PoolType) : Type 0 where
  pub files : new.files ≡ (pool_of w.tables).files ++ map record_file fs
  pub names : (s : Sort) → names_of new s ≡ names_of (pool_of w.tables) s
      ++ with_names s [] (batch_declarations w.before w.first fs)

-- so it is of the files that a pool has not yet
abbrev pub AddsFiles : PoolType → List FileDescriptorProto → PoolType → Type 0
AddsFiles p fs new = (w : Linking) × IsOf p w × AddsNames w (new_files w.indexes fs) new
