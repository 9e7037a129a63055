-- What is so of the file that each source is is so of all.
use Rattle.std.proofs.Common.{ℕ, List, [], ◌∷◌, map}
use Rattle.std.specs.List.{AllByRecursion}
use Rattle.descriptor_records.specs.Content.{FileContent, file_view}
use Rattle.descriptor_records.specs.declared.file.FileDescriptorProto.{FileDescriptorProto}
use Rattle.plain_records.specs.PlainRecords.{ArePlainFiles, IsPlainFile}
use Rattle.plain_records.specs.SaidOptions.{SaysOrWaits}
use Rattle.plain_records.specs.SourceOptions.{AreOfSource}
use Rattle.schema_view.specs.Plain as plain_names
use Rattle.source_laws.proofs.LoneLists.{source_lone}
use Rattle.source_laws.proofs.PlainFiles.{source_options, source_plain}
use Rattle.source_laws.proofs.Sources.{source_names, source_undotted}
use Rattle.source_records.specs.LoneLists.{GivesLoneLists}
use Rattle.source_records.specs.SourceNames.{IsSourceFile}
use Rattle.schema_core.specs.Refusals.{AreFilesOf, IsFileOf}
use Rattle.schema_laws.specs.Histories.{Sources}

each_is : (P : FileContent → Type 0) → ((s : List ℕ × List ℕ) (f : FileDescriptorProto) → IsFileOf s f → P (file_view f)) → (given : Sources) (files : List FileDescriptorProto) → AreFilesOf given files
    → AllByRecursion P (map file_view files)
each_is P one [] [] h = tt
each_is P one [] (f ∷ fs) h = absurd h
each_is P one (s ∷ ss) [] h = tt
each_is P one (s ∷ ss) (f ∷ fs) h = (one s f h.0, each_is P one ss fs h.1)

module _ (given : Sources) (files : List FileDescriptorProto) (are : AreFilesOf given files) where
  -- names as sources give them
  pub names_of : AllByRecursion IsSourceFile (map file_view files)
  names_of = each_is IsSourceFile (λ s f. source_names s.0 s.1 f) given files are

  -- names without dots
  pub undotted_of : AllByRecursion plain_names.IsPlainFile (map file_view files)
  undotted_of = each_is plain_names.IsPlainFile (λ s f. source_undotted s.0 s.1 f) given files are

  -- no list in a oneof
  pub lone_of : AllByRecursion GivesLoneLists (map file_view files)
  lone_of = each_is GivesLoneLists (λ s f. source_lone s.0 s.1 f) given files are

  -- records that bytes can say
  pub plain_of : ArePlainFiles SaysOrWaits (map file_view files)
  plain_of = each_is (IsPlainFile SaysOrWaits 99) (λ s f. source_plain s.0 s.1 f) given files are

  -- options as sources give them
  pub options_of : ArePlainFiles AreOfSource (map file_view files)
  options_of = each_is (IsPlainFile AreOfSource 99) (λ s f. source_options s.0 s.1 f) given files are
