-- Names of schemas that sources are added to.
use Rattle.std.proofs.Common.{rules}
use Rattle.descriptor_records.specs.Content.{file_view}
use Rattle.descriptor_records.specs.declared.file.FileDescriptorProto.{FileDescriptorProto}
use Rattle.reflect_pool.specs.Linked.{empty_pool}
use Rattle.reflect_tables.specs.Types.{PoolType}
use Rattle.source_records.specs.SourceNames.{IsSourceFile}
use Rattle.message_view.specs.Sound.{IsSound}
use Rattle.linked_names.proofs.Accepted.{accepted_sources}
use Rattle.linked_names.proofs.Stays.{settled_sources}
use Rattle.linked_names.proofs.Typed.{typed_files}
use Rattle.linked_names.specs.SourcePools.{IsSourcePool}
use Rattle.schema_core.specs.Refusals.{SourcesLinked}
use Rattle.schema_laws.specs.Histories.{Sources}
use Rattle.schema_laws.proofs.Lists.{all_from}
use Rattle.schema_laws.proofs.SourceFiles.{names_of}

-- names stay as sources give them, where sources are added to a pool
pub named_by_sources : (old new : PoolType) (sources : Sources) → IsSound old → SourcesLinked old sources new → IsSourcePool old → IsSourcePool new
named_by_sources old new sources sound (files, read, (linked, fit, options, settled, bare)) names =
    let of_source = all_from file_view IsSourceFile (λ (f : FileDescriptorProto). IsSourceFile (file_view f)) (λ f is. is) files (names_of sources files read) in
    let typed = typed_files files fit.0 fit.1 of_source in
    settled_sources linked new settled (accepted_sources old linked fit.0 sound fit.2.1 typed names)

-- a pool without files has such names
pub empty_sources : IsSourcePool empty_pool
empty_sources = search rules
