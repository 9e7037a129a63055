-- What the iterators over files and over their records have left: each file by its pool and its
-- place there.
use Rattle.std.specs.Prelude.{ℕ, List, length, map}
use Rattle.descriptor_records.specs.declared.file.FileDescriptorProto.{FileDescriptorProto}
use Rattle.reflect_tables.specs.Types.{PoolType}
use Rattle.reflect_tables.specs.Views.{record_of}
use Rattle.reflect_pool.specs.PlacesLeft.{places_from}
use Rattle.reflect_link.specs.declared.file.FileDescriptor.{FileDescriptor}
use Rattle.reflect_link.specs.declared.pool_readers.AllFiles.{AllFiles}
use Rattle.reflect_link.specs.declared.pool_readers.FileRecords.{FileRecords}

abbrev pub file_place : FileDescriptor → PoolType × ℕ
file_place f = (f.pool.now, f.index)

abbrev pub files_left : AllFiles → List (PoolType × ℕ)
files_left s = places_from s.pool.now s.next (length s.pool.now.files)

abbrev pub records_left : FileRecords → List FileDescriptorProto
records_left s = map record_of s.rest.now
