-- What a source is answered with.
use Rattle.descriptor_records.specs.Content as records
use Rattle.descriptor_records.specs.declared.file.FileDescriptorProto.{FileDescriptorProto}
use Rattle.protox_check.specs.Faults as checks
use Rattle.protox_file.specs.Sources.{Spells, RefusedBy}
use Rattle.protox_lex.specs.Class.{Text}
use Rattle.protox_lex.specs.Lines.{feeds_of}
use Rattle.protox_locate.specs.Files.{AreLocations}
use Rattle.protox_parse.specs.declared.error.ParseError.{ParseError}
use Rattle.protox_parse.specs.declared.error.ParseError.TheVariants.{Memory, Refused}
use Rattle.protox_record.specs.FileRecords.{IsFile}
use Rattle.protox_tokens.specs.Refusal.{Fault}
use Rattle.protox_tokens.specs.Told.{IsToldAs}
use Rattle.protox_tree.specs.FileTree.{File}
use Rattle.protox_tree.specs.FileView.{file_view}
use Rattle.protox_tree.specs.declared.file.File as trees
use Rattle.protox_tree.specs.declared.error.ParseErrorKind.{ParseErrorKind}
use Rattle.std.specs.Prelude.{◌≡◌, ◌<◌, ◌⊎◌, ◌∷◌, [], List, Some, Result, Ok, Err, length}

-- this fault, alone
abbrev pub TellsFault : Fault → List ParseErrorKind → Type 0
TellsFault fault faults = (kind : ParseErrorKind) × (faults ≡ kind ∷ []) × IsToldAs fault kind

-- these are all faults of a tree, in order, and there are some
abbrev pub HasFaults : File → List ParseErrorKind → Type 0
HasFaults tree faults = (faults ≡ checks.faults_of tree) × (0 < length faults)

-- Why a source is refused: it spells no tree, and its first fault is told; or it spells one that
-- has faults, and all of them are told.
abbrev pub AreAtFault : Text → List ParseErrorKind → Type 0
AreAtFault z faults =
    ((fault : Fault) × RefusedBy z fault × TellsFault fault faults)
    ⊎ ((tree : File) × Spells z tree × HasFaults tree faults)

-- The record of a tree under a name, with the locations that the tree has in a text.
pub record IsRecordOf (name z : Text) (tree : trees.File)
    (made : records.FileContent) : Type 0 where
  pub bare : records.FileContent
  pub bare_is : IsFile name tree bare
  pub locations : List records.LocationContent
  pub located : AreLocations z (feeds_of z) (file_view tree) locations
  pub is : made ≡ record bare { source_code_info = Some locations }

-- A record is that of a tree without faults which the text spells, under this name.
abbrev pub IsAnswered : Text → Text → Result FileDescriptorProto ParseError → Type 0
IsAnswered name z (Ok made) =
    (tree : trees.File) × Spells z (file_view tree) × (checks.faults_of (file_view tree) ≡ [])
    × IsRecordOf name z tree (records.file_view made)
IsAnswered name z (Err Memory) = Unit {0}
IsAnswered name z (Err (Refused r)) = AreAtFault z r.faults.items
