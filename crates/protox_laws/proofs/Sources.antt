-- A source has one answer, unless memory runs out.
use Rattle.std.proofs.Common.{◌≡◌, ◌∙◌, Some, Ok, Err, arith, length, ap, subst, sym}
use Rattle.descriptor_records.specs.Content as records
use Rattle.descriptor_records.specs.declared.file.FileDescriptorProto.{FileDescriptorProto}
use Rattle.protox_file.proofs.Texts.{same_tree}
use Rattle.protox_laws.proofs.Files.{one_record}
use Rattle.protox_laws.proofs.Locations.{same_locations}
use Rattle.protox_laws.specs.Unplaced.{unplaced}
use Rattle.protox_lex.specs.Class.{Text}
use Rattle.protox_lex.specs.Lines.{feeds_of}
use Rattle.protox_locate.specs.Files.{AreLocations}
use Rattle.protox_parse.proofs.Answered.{all_told}
use Rattle.protox_parse.specs.Answers.{IsAnswered}
use Rattle.protox_parse.specs.declared.error.ParseError.TheVariants.{Refused}
use Rattle.protox_parse.specs.declared.error.Refusal.{Refusal}
use Rattle.protox_tree.specs.FileView.{file_view}

pub same_record : (name z : Text) (a b : FileDescriptorProto) → IsAnswered name z (Ok a) → IsAnswered name z (Ok b) → records.file_view a ≡ records.file_view b
same_record name z a b h k =
    let seen = same_tree z (file_view h.0) (file_view k.0) h.1 k.1 in
    let bare = one_record name h.0 k.0 h.3.bare k.3.bare (ap unplaced seen) h.3.bare_is k.3.bare_is in
    let located = subst (λ t. AreLocations z (feeds_of z) t h.3.locations) seen h.3.located in
    let places = same_locations z (feeds_of z) (file_view k.0) h.3.locations k.3.locations located k.3.located in
    let whole : record h.3.bare { source_code_info = Some h.3.locations } ≡ record k.3.bare { source_code_info = Some k.3.locations } =
    λ i. record (bare i) { source_code_info = Some (places i) } in
    h.3.is ∙ whole ∙ sym k.3.is

pub not_refused : (name other z : Text) (made : FileDescriptorProto) (r : Refusal) → IsAnswered name z (Ok made) → IsAnswered other z (Err (Refused r)) → ⊥
not_refused name other z made r h k =
    let told = all_told other z r (file_view h.0) h.1 k in
    omega (arith, told.1, ap length (told.0 ∙ h.2))
