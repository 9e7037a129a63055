-- The records of schemas are such that bytes can say them.
use Rattle.std.proofs.Common.{◌≡◌, ◌∙◌, ◌++◌, ℕ, List, [], ◌∷◌, map, length, take, inl, ap, sym, subst, arith}
use Rattle.std.proofs.Math.Seq.{take-append_seam}
use Rattle.std.proofs.lemmas.List.{length-map}
use Rattle.std.specs.List.{AllByRecursion}
use Rattle.descriptor_records.specs.Content.{file_view}
use Rattle.descriptor_records.specs.declared.file.FileDescriptorProto.{FileDescriptorProto}
use Rattle.reflect_bytes.specs.Spelled.{SpellsSet}
use Rattle.reflect_build.specs.Accepted.{FaultlessFiles}
use Rattle.reflect_build.specs.Refusals.{new_files}
use Rattle.reflect_index.specs.Rewriting.{written}
use Rattle.reflect_tables.specs.Types.{PoolType}
use Rattle.codec_laws.specs.Plain as records
use Rattle.codec_laws.proofs.Said.{set_says}
use Rattle.plain_records.specs.PlainRecords.{ArePlainFiles, IsInside}
use Rattle.plain_records.specs.SaidOptions.{SaysAndIsSettled, SaysItsBytes, SaysOrWaits}
use Rattle.plain_records.proofs.Both.{files_weaker}
use Rattle.plain_records.proofs.Contents.{file_to}
use Rattle.message_view.specs.Sound.{IsSound}
use Rattle.schema_laws.proofs.Linked.{linked_sound}
use Rattle.settled_records.proofs.Accepted.{linked_plain}
use Rattle.settled_records.proofs.Typed.{typed_plain}
use Rattle.settled_records.proofs.Left.{pool_done}
use Rattle.settled_view.proofs.Many.{as_many, linked_many}
use Rattle.schema_core.specs.Refusals.{FilesLinked, SetLinked, SourcesLinked}
use Rattle.schema_laws.specs.Histories.{Sources}
use Rattle.schema_laws.specs.Records.{HasPlainRecords}
use Rattle.schema_laws.proofs.SourceFiles.{plain_of}

-- the options of the files of a set say what their bytes do
pub set_options : (bytes : List ℕ) (files : List FileDescriptorProto) → SpellsSet bytes files → ArePlainFiles SaysItsBytes (map file_view files)
set_options bytes files (s, means, are) = subst (λ fs. ArePlainFiles SaysItsBytes (map file_view fs)) are (each s.file.items (set_says bytes s means))
  where
    each : (fs : List FileDescriptorProto) → AllByRecursion (IsInside records.IsPlainFile 100) fs → ArePlainFiles SaysItsBytes (map file_view fs)
    each [] all = tt
    each (f ∷ fs) all = (file_to 99 f all.0.1, each fs all.1)

of_set : (bytes : List ℕ) (files : List FileDescriptorProto) → SpellsSet bytes files → ArePlainFiles SaysOrWaits (map file_view files)
of_set bytes files spells = files_weaker SaysItsBytes SaysOrWaits (λ kind o says. inl says) (map file_view files) (set_options bytes files spells)

-- the older records stand before the linked ones
older : (old linked : PoolType) (files : List FileDescriptorProto) → FaultlessFiles old files linked → take (length old.files) (map file_view linked.records) ≡ map file_view old.records
older old linked files (w, is, (names, batch)) =
    let more = written batch.references (map file_view (new_files w.indexes files)) in
    let stand : map file_view linked.records ≡ map file_view old.records ++ more = batch.records ∙ ap (λ (p : PoolType). map file_view p.records ++ more) is.tables in
    let many : length old.files ≡ length (map file_view old.records) = as_many old w is ∙ sym (length-map old.records file_view) in
    ap (take (length old.files)) stand ∙ ap (λ n. take n (map file_view old.records ++ more)) many ∙ take-append_seam (map file_view old.records) more

-- files with plain records leave the records of a pool plain
linked_files : (old new : PoolType) (files : List FileDescriptorProto) → IsSound new → HasPlainRecords old → ArePlainFiles SaysOrWaits (map file_view files)
    → FilesLinked old files new → HasPlainRecords new
linked_files old new files sound plain are (linked, (typed, types, (adds, faultless, few)), settles, settled, bare) =
    let waits = files_weaker SaysAndIsSettled SaysOrWaits (λ kind o says. inl says.0) (map file_view old.records) plain in
    let linked_are = linked_plain SaysOrWaits old linked typed waits (typed_plain files typed are types) faultless in
    let many = linked_many old linked typed faultless in
    pool_done linked new (length old.files) (linked_sound linked new settled sound) (omega (arith, many)) linked_are
    (subst (ArePlainFiles SaysAndIsSettled) (sym (older old linked typed faultless)) plain) settles

pub sources_plain : (old new : PoolType) (sources : Sources) → IsSound new → HasPlainRecords old → SourcesLinked old sources new → HasPlainRecords new
sources_plain old new sources sound plain (files, read, linked) = linked_files old new files sound plain (plain_of sources files read) linked

pub set_plain : (old new : PoolType) (bytes : List ℕ) → IsSound new → HasPlainRecords old → SetLinked old bytes new → HasPlainRecords new
set_plain old new bytes sound plain (files, read, linked) = linked_files old new files sound plain (of_set bytes files read) linked
