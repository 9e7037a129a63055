-- What an accepted batch adds, where no pass found a fault.
use Rattle.std.proofs.Common.{◌≡◌, ◌++◌, List, [], map, ap, sym, ◌∙◌}
use Rattle.descriptor_records.specs.Content.{file_view}
use Rattle.descriptor_records.specs.declared.file.FileDescriptorProto.{FileDescriptorProto}
use Rattle.reflect_faults.specs.Faults.{batch_places, list_of, place_at}
use Rattle.reflect_faults.specs.declared.faults.Faults.{Faults}
use Rattle.reflect_names.specs.declared.resolve_visitor.Reference.{Reference}
use Rattle.reflect_tables.specs.Types.{PoolType}
use Rattle.reflect_known.specs.GivenNames.{names_of_file}
use Rattle.reflect_tables.specs.Views.{file_of, record_of, record_file, declared_of, places_of, message_of, enum_of, extension_of, service_of, pool_of}
use Rattle.reflect_growth.specs.Growth.{Appended}
use Rattle.reflect_index.specs.declared.batch.Batch.{Batch}
use Rattle.reflect_tables.specs.declared.tables.Tables.{Tables}
use Rattle.reflect_index.specs.Rewriting.{written}
use Rattle.reflect_index.proofs.Known.{none_right}
use Rattle.reflect_passes.specs.NumberFaults.{NumberFaults, doubled}
use Rattle.reflect_passes.specs.declared.linked_types.LinkedTypes.{LinkedTypes}
use Rattle.reflect_build.specs.Refusals.{Linking, ReferencesMean, AreTypes}
use Rattle.reflect_build.specs.Accepted.{AddsRecords, AreAdded, FaultlessBatch}
use Rattle.reflect_build.proofs.Pooled.{map-append}
use Rattle.reflect_build.proofs.Refused.{types_with}

pub goes_behind : {X Y : Type 0} (f : X → Y) (olds mores news : List X) (batch : List Y) → news ≡ olds ++ mores → map f mores ≡ batch → map f news ≡ map f olds ++ batch
goes_behind f olds mores news batch a b = ap (map f) a ∙ map-append f olds mores ∙ ap (λ l. map f olds ++ l) b

pub added_behind : (old more new : Tables) (b : Batch) (fs : List FileDescriptorProto) (w : Linking) → Appended old more new
    → map file_of more.files.items ≡ map record_file fs → map places_of more.files.items ≡ map declared_of b.files.items → more.messages.items ≡ b.messages.items → more.enums.items ≡ b.enums.items → more.extensions.items ≡ b.extensions.items
    → more.services.items ≡ b.services.items
    → AddsRecords (pool_of old) fs (pool_of new)
    → AreAdded (pool_of old) fs (types_with w b) (pool_of new)
added_behind old more new b fs w a files declared messages enums extensions services records =
    record {
      files = goes_behind file_of old.files.items more.files.items new.files.items (map record_file fs) a.files files;
      declared = goes_behind places_of old.files.items more.files.items new.files.items (map declared_of b.files.items) a.files declared;
      messages = goes_behind message_of old.messages.items more.messages.items new.messages.items (map message_of b.messages.items) a.messages (ap (map message_of) messages);
      enums = goes_behind enum_of old.enums.items more.enums.items new.enums.items (map enum_of b.enums.items) a.enums (ap (map enum_of) enums);
      extensions = goes_behind extension_of old.extensions.items more.extensions.items new.extensions.items (map extension_of b.extensions.items) a.extensions (ap (map extension_of) extensions);
      services = goes_behind service_of old.services.items more.services.items new.services.items (map service_of b.services.items) a.services (ap (map service_of) services);
      records = records;
    }

-- the records of further files, with the names that their references mean
pub records_written : (old more new : Tables) (rs : List Reference)
    (fs records : List FileDescriptorProto)
    → Appended old more new → map record_of more.files.items ≡ records
    → map file_view records ≡ written rs (map file_view fs)
    → map file_view (pool_of new).records ≡ map file_view (pool_of old).records
    ++ written rs (map file_view fs)
records_written old more new rs fs records a same is =
    let olds = (pool_of old).records in
    ap (map file_view)
    (goes_behind record_of old.files.items more.files.items new.files.items records a.files
    same)
    ∙ map-append file_view olds records ∙ ap (λ l. map file_view olds ++ l) is

-- the records of further files, which give the names of other ones
pub records_behind : (old more new : Tables) (rs fs : List FileDescriptorProto)
    → Appended old more new → map record_of more.files.items ≡ rs → map names_of_file rs
    ≡ map names_of_file fs
    → AddsRecords (pool_of old) fs (pool_of new)
records_behind old more new rs fs a records names = record {
  more = rs;
  records =
      goes_behind record_of old.files.items more.files.items new.files.items rs a.files records;
  names = names;
}

pub faultless : (w : Linking) (fs : List FileDescriptorProto) (new : PoolType) (rs : List Reference) (t : LinkedTypes) → ReferencesMean w fs rs → AreTypes w fs rs t → AreAdded (pool_of w.tables) fs t new
    → NumberFaults t w.before w.first fs rs [] → (f : Faults) → place_at f ≡ batch_places fs w.first
    → list_of f ++ doubled w.numbers t (place_at f) ≡ []
    → map file_view new.records ≡ map file_view (pool_of w.tables).records
    ++ written rs (map file_view fs)
    → FaultlessBatch w fs new
faultless w fs new rs t means types added numbers f at none records = record {
  references = rs;
  types = t;
  means = means;
  declared = types;
  added = added;
  numbers = numbers;
  apart = ap (doubled w.numbers t) (sym at) ∙ none_right (list_of f) (doubled w.numbers t (place_at f)) none;
  records = records;
}
