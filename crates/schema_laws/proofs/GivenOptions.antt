-- Options of the files that sources are, and of those of a set.
use Rattle.std.proofs.Common.{ℕ, List, map}
use Rattle.descriptor_records.specs.Content.{file_view}
use Rattle.descriptor_records.specs.declared.file.FileDescriptorProto.{FileDescriptorProto}
use Rattle.plain_records.specs.PlainRecords.{ArePlainFiles}
use Rattle.plain_records.specs.SaidOptions.{SaysItsBytes}
use Rattle.plain_records.specs.SourceOptions.{AreOfSource}
use Rattle.plain_records.proofs.Both.{files_weaker}
use Rattle.reflect_bytes.specs.Spelled.{SpellsSet}
use Rattle.stored_options.specs.CopiedOptions.{ReadsItsBytes}
use Rattle.stored_options.proofs.Copied.{set_reads, source_reads}
use Rattle.schema_core.specs.Refusals.{AreFilesOf}
use Rattle.schema_laws.specs.Histories.{Sources}
use Rattle.schema_laws.proofs.PlainRecords.{set_options}
use Rattle.schema_laws.proofs.SourceFiles.{options_of}

-- of both linking reads what their bytes say
pub sources_read : (sources : Sources) (files : List FileDescriptorProto) → AreFilesOf sources files → ArePlainFiles ReadsItsBytes (map file_view files)
sources_read sources files are =
    files_weaker AreOfSource ReadsItsBytes (λ scope o is. source_reads scope o is.0) (map file_view files) (options_of sources files are)

pub set_read : (bytes : List ℕ) (files : List FileDescriptorProto) → SpellsSet bytes files → ArePlainFiles ReadsItsBytes (map file_view files)
set_read bytes files spells = files_weaker SaysItsBytes ReadsItsBytes set_reads (map file_view files) (set_options bytes files spells)
