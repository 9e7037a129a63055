-- The bytes that pools and files are written in (descriptor.proto, FileDescriptorSet).
use Rattle.std.specs.Prelude.{◌≡◌, ℕ, List, Some, slice_get}
use Rattle.descriptor_records.specs.declared.file.FileDescriptorProto.{FileDescriptorProto}
use Rattle.reflect_codec.specs.Fields.{records_field}
use Rattle.reflect_codec.specs.Written.{file_bytes}
use Rattle.reflect_tables.specs.Types.{PoolType}

-- the bytes of the set of a pool's files
abbrev pub pool_bytes : PoolType → List ℕ
pool_bytes p = records_field file_bytes 1 p.records

-- those of the record of the file at a place
abbrev pub AreOfFile : PoolType → ℕ → List ℕ → Type 0
AreOfFile p i bytes = (f : FileDescriptorProto) × (slice_get p.records i ≡ Some f)
    × (bytes ≡ file_bytes f)
