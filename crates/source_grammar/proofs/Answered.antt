-- What a source is answered with, in the words of the grammar.
use Rattle.std.proofs.Common.{◌≡◌, List, Ok, ap, sym, ◌∙◌, inl, inr}
use Rattle.std.specs.Prelude.{◌↔◌}
use Rattle.descriptor_records.specs.Content as records
use Rattle.descriptor_records.specs.declared.file.FileDescriptorProto.{FileDescriptorProto}
use Rattle.protox_file.proofs.Texts.{not_both}
use Rattle.protox_laws.proofs.Files.{one_record}
use Rattle.protox_laws.specs.Unplaced.{unplaced}
use Rattle.protox_lex.specs.Class.{Text}
use Rattle.protox_parse.specs.Answers.{AreAtFault, IsAnswered}
use Rattle.protox_tree.specs.FileView.{file_view}
use Rattle.protox_tree.specs.declared.error.ParseErrorKind.{ParseErrorKind}
use Rattle.source_grammar.specs.Answers.{AreFaultsIn, IsRecordIn}
use Rattle.source_grammar.specs.SameTokens.{HaveSameTokens}
use Rattle.source_grammar.proofs.FileLaws.{spelled}
use Rattle.source_grammar.proofs.SameTrees.{same_trees}

pub recorded : (name z : Text) (made : FileDescriptorProto) → IsAnswered name z (Ok made) ↔ IsRecordIn name z (records.file_view made)
recorded name z made = (λ h. (h.0, (spelled z (file_view h.0)).0 h.1, h.2, h.3), λ h. (h.0, (spelled z (file_view h.0)).1 h.1, h.2, h.3))

pub refused : (z : Text) (faults : List ParseErrorKind) → AreAtFault z faults ↔ AreFaultsIn z faults
refused z faults = (to, from) where
  to : AreAtFault z faults → AreFaultsIn z faults
  to (inl h) = inl (λ tree g. not_both z tree h.0 ((spelled z tree).1 g) h.1, h.0, h.1, h.2)
  to (inr h) = inr (h.0, (spelled z h.0).0 h.1, h.2)

  from : AreFaultsIn z faults → AreAtFault z faults
  from (inl h) = inl (h.1, h.2, h.3)
  from (inr h) = inr (h.0, (spelled z h.0).1 h.1, h.2)

pub same_record : (name z w : Text) (a b : FileDescriptorProto) → HaveSameTokens z w → IsAnswered name z (Ok a) → IsAnswered name w (Ok b) → records.unlocated (records.file_view a) ≡ records.unlocated (records.file_view b)
same_record name z w a b same h k =
    let trees : unplaced (file_view h.0) ≡ unplaced (file_view k.0) = same_trees z w (file_view h.0) (file_view k.0) same ((spelled z (file_view h.0)).0 h.1) ((spelled w (file_view k.0)).0 k.1) in
    ap records.unlocated h.3.is ∙ ap records.unlocated (one_record name h.0 k.0 h.3.bare k.3.bare trees h.3.bare_is k.3.bare_is) ∙ sym (ap records.unlocated k.3.is)
