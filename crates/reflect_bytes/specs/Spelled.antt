-- What bytes spell that files are linked from, and how such files are added or refused.
use Rattle.std.specs.Prelude.{◌≡◌, ◌≢◌, ℕ, List, [], ◌∷◌, false, cond}
use Rattle.descriptor_records.specs.declared.file.FileDescriptorProto.{FileDescriptorProto}
use Rattle.descriptor_records.specs.declared.file.FileDescriptorSet.{FileDescriptorSet}
use Rattle.reflect_wire.specs.declared.wire_error.WireError.{WireError}
use Rattle.reflect_wire.specs.declared.wire_error.WireError.TheVariants as wire
use Rattle.reflect_codec.specs.Meaning.{IsFileBytes, IsSetBytes}
use Rattle.reflect_tables.specs.Types.{PoolType}
use Rattle.reflect_passes.specs.Errors.{is_memory}
use Rattle.reflect_passes.specs.declared.error.DescriptorError.{DescriptorError}
use Rattle.reflect_build.specs.Accepted.{AddsFiles, FaultlessFiles}
use Rattle.reflect_build.specs.Refusals.{AreRefused, AreTooMany}
use Rattle.reflect_bytes.specs.declared.pool_ext.PoolError.{PoolError}
use Rattle.reflect_bytes.specs.declared.pool_ext.PoolError.TheVariants.{Wire, Link, Memory}

-- the bytes are those of a descriptor set of these files
abbrev pub SpellsSet : List ℕ → List FileDescriptorProto → Type 0
SpellsSet bytes files = (s : FileDescriptorSet) × IsSetBytes bytes s × (s.file.items ≡ files)

-- the bytes are those of the record of this file alone
abbrev pub SpellsFile : List ℕ → List FileDescriptorProto → Type 0
SpellsFile bytes files = (f : FileDescriptorProto) × IsFileBytes bytes f × (f ∷ [] ≡ files)

-- a refusal of bytes, as one of files
abbrev pub of_wire : WireError → PoolError
of_wire wire.Memory = Memory
of_wire e = Wire e

-- a linker's refusal of files, likewise
abbrev pub of_linker : DescriptorError → PoolError
of_linker e = cond (is_memory e.first) Memory (Link e)

-- records fit together and with a pool, which becomes the new one, and are not too many
abbrev pub RecordsLinked : PoolType → List FileDescriptorProto → PoolType → Type 0
RecordsLinked p files new = AddsFiles p files new × FaultlessFiles p files new
    × (AreTooMany p files → ⊥)

-- records are refused where they do not fit together, with the faults of the first faulty pass, or
-- where there are more of them than indexes tell, unless memory ran out
abbrev pub RecordsRefused : PoolType → List FileDescriptorProto → PoolError → Type 0
RecordsRefused p files (Wire e) = ⊥
RecordsRefused p files (Link e) = (is_memory e.first ≡ false) × AreRefused p files e
RecordsRefused p files Memory = Unit {0}

-- bytes spell files that fit together
abbrev pub BytesLinked : (List FileDescriptorProto → Type 0) → PoolType → PoolType → Type 0
BytesLinked Spelled p new = (files : List FileDescriptorProto) × Spelled files
    × RecordsLinked p files new

-- bytes spell no files, and what is told of them is so
abbrev pub NotSpelled : (List FileDescriptorProto → Type 0) → (WireError → Type 0) → WireError
    → Type 0
NotSpelled Spelled Fault e = ((files : List FileDescriptorProto) → Spelled files → ⊥) × Fault e

-- bytes are refused where they spell no files, or where the files that they spell do not fit
-- together, unless memory ran out
abbrev pub BytesRefused : (List FileDescriptorProto → Type 0) → (WireError → Type 0) → PoolType
    → PoolError → Type 0
BytesRefused Spelled Fault p (Wire e) = (e ≢ wire.Memory) × NotSpelled Spelled Fault e
BytesRefused Spelled Fault p (Link e) = (files : List FileDescriptorProto) × Spelled files
    × RecordsRefused p files (Link e)
BytesRefused Spelled Fault p Memory = Unit {0}
