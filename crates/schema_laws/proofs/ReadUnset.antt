-- Fields without presence in schemas that files are added to.
use Rattle.std.proofs.Common.{List, [], ◌∷◌, sym, ap, subst}
use Rattle.std.specs.List.{AllByRecursion}
use Rattle.descriptor_records.specs.Content.{file_view}
use Rattle.descriptor_records.specs.declared.file.FileDescriptorProto.{FileDescriptorProto}
use Rattle.reflect_tables.specs.Types.{PoolType, IsSettled}
use Rattle.source_records.specs.LoneLists.{GivesLoneLists}
use Rattle.text_model.specs.Unset.{HaveReadDefaults}
use Rattle.message_view.specs.Sound.{HasNumbers, HaveNumbers, IsSound}
use Rattle.message_view.specs.Types.{types_of}
use Rattle.linked_names.proofs.ReadDefaults.{accepted_unset}
use Rattle.linked_names.proofs.Stays.{empty_unset, settled_unset}
use Rattle.linked_names.proofs.Typed.{typed_lists}
use Rattle.schema_core.specs.Refusals.{FilesLinked, SourcesLinked}
use Rattle.schema_core.specs.declared.schema.Schema.{Schema}
use Rattle.schema_laws.proofs.Lists.{all_from}
use Rattle.schema_laws.proofs.SourceFiles.{lone_of}
use Rattle.schema_laws.specs.Histories.{IsMadeBy, Sources}

-- no list is a member of a oneof in their records
abbrev pub HaveLone : List FileDescriptorProto → Type 0
HaveLone files = AllByRecursion (λ (f : FileDescriptorProto). GivesLoneLists (file_view f)) files

-- settling leaves enums as they are
settled_numbers : (linked new : PoolType) → IsSettled linked new → HaveNumbers new → HaveNumbers linked
settled_numbers linked new settled numbers = subst (AllByRecursion HasNumbers) (ap (λ (p : PoolType). p.enums) settled) numbers

pub linked_unset : (old new : PoolType) (files : List FileDescriptorProto) → IsSound old → IsSound new → HaveLone files → FilesLinked old files new → HaveReadDefaults (types_of old) → HaveReadDefaults (types_of new)
linked_unset old new files sound also lone (linked, fit, options, settled, bare) reads =
    settled_unset linked new settled (accepted_unset old linked fit.0 sound (settled_numbers linked new settled also.values) fit.2.1 (typed_lists files fit.0 fit.1 lone) reads)

pub sources_unset : (old new : PoolType) (sources : Sources) → IsSound old → IsSound new → SourcesLinked old sources new → HaveReadDefaults (types_of old) → HaveReadDefaults (types_of new)
sources_unset old new sources sound also (files, read, linked) reads =
    let lone = all_from file_view GivesLoneLists (λ (f : FileDescriptorProto). GivesLoneLists (file_view f)) (λ f is. is) files (lone_of sources files read) in
    linked_unset old new files sound also lone linked reads

-- a schema that sources made begins without files
pub made_unset : (batches : List Sources) (s : Schema) → IsMadeBy SourcesLinked batches s → HaveReadDefaults (types_of s.pool)
made_unset [] s is = subst (λ p. HaveReadDefaults (types_of p)) (sym is) empty_unset
made_unset (sources ∷ earlier) s (old, before, linked, pool) = sources_unset old.pool s.pool sources old.sound s.sound linked (made_unset earlier old before)
