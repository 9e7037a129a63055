-- What a source is answered with, in the words of the grammar.
use Rattle.descriptor_records.specs.Content as records
use Rattle.protox_check.specs.Faults as checks
use Rattle.protox_file.specs.Sources.{RefusedBy}
use Rattle.protox_lex.specs.Class.{Text}
use Rattle.protox_parse.specs.Answers.{TellsFault, HasFaults, IsRecordOf}
use Rattle.protox_tokens.specs.Refusal.{Fault}
use Rattle.protox_tree.specs.FileTree.{File}
use Rattle.protox_tree.specs.FileView.{file_view}
use Rattle.protox_tree.specs.declared.file.File as trees
use Rattle.protox_tree.specs.declared.error.ParseErrorKind.{ParseErrorKind}
use Rattle.source_grammar.specs.Files.{IsSpelledBy}
use Rattle.std.specs.Prelude.{◌≡◌, ◌⊎◌, [], List}

-- The text's tokens are those of a tree without faults, whose record under a name this is.
abbrev pub IsRecordIn : Text → Text → records.FileContent → Type 0
IsRecordIn name z made =
    (tree : trees.File) × IsSpelledBy (file_view tree) z
    × (checks.faults_of (file_view tree) ≡ []) × IsRecordOf name z tree made

-- The text's tokens are those of no tree.
abbrev pub SpellsNone : Text → Type 0
SpellsNone z = (tree : File) → IsSpelledBy tree z → ⊥

-- The text's tokens are those of no tree, and its first fault is told; or they are those of a tree
-- that has faults, and all of them are told.
abbrev pub AreFaultsIn : Text → List ParseErrorKind → Type 0
AreFaultsIn z faults =
    (SpellsNone z × (fault : Fault) × RefusedBy z fault × TellsFault fault faults)
    ⊎ ((tree : File) × IsSpelledBy tree z × HasFaults tree faults)
