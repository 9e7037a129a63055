-- A source that spells a tree is answered with its record or its faults, another one with its first fault.
use Rattle.descriptor_records.specs.Content as records
use Rattle.descriptor_records.specs.Content.{FileContent, LocationContent}
use Rattle.descriptor_records.specs.declared.file.FileDescriptorProto.{FileDescriptorProto}
use Rattle.protox_check.specs.Faults as checks
use Rattle.protox_file.proofs.Texts.{not_both, same_tree}
use Rattle.protox_file.proofs.OlderSources.{older_spells}
use Rattle.protox_file.specs.OlderGrammar.{SpellsOlder}
use Rattle.protox_file.specs.Sources.{Spells, RefusedBy}
use Rattle.protox_lex.specs.Class.{Text}
use Rattle.protox_lex.specs.Lines.{feeds_of}
use Rattle.protox_locate.specs.Files.{AreLocations}
use Rattle.protox_parse.specs.Answers.{HasFaults, IsAnswered, IsRecordOf}
use Rattle.protox_parse.specs.Refusals.{faults_of, first_span, resolved, place_among, place_in, IsRefusalOf}
use Rattle.protox_parse.specs.declared.error.ParseError.{ParseError}
use Rattle.protox_parse.specs.declared.error.Refusal.{Refusal}
use Rattle.protox_parse.specs.declared.error.ParseError.TheVariants.{Memory, Refused}
use Rattle.protox_record.specs.FileRecords.{IsFile}
use Rattle.protox_tokens.specs.Refusal.{Fault}
use Rattle.protox_tokens.specs.Told.{IsToldAs}
use Rattle.protox_tree.specs.FileTree.{File}
use Rattle.protox_tree.specs.FileView.{file_view}
use Rattle.protox_tree.specs.Spans.{span_of}
use Rattle.protox_tree.specs.declared.file.File as trees
use Rattle.protox_tree.specs.declared.error.ParseErrorKind.{ParseErrorKind}
use Rattle.protox_tree.specs.declared.error.ParseErrorKind.TheVariants.{FileTooLarge}
use Rattle.std.proofs.Common.{◌≡◌, ◌⊎◌, ◌∙◌, ℕ, Bool, true, List, inl, inr, [], ◌∷◌, Some, None, Result, Ok, Err, ap, sym, arith, length, refl, subst}
use Rattle.std.specs.Option.{option_and_then}
use Rattle.std.proofs.lemmas.Bool.Decides.{nat_tests}
use Rattle.std.proofs.lemmas.List.{nil_from_length}
use Rattle.std.specs.Prelude.{◌==◌, IfErr, IfOk, slice_get, string_bytes, vec_len}
use Rattle.std.specs.declared.alloc.Global.{Global}
use Rattle.std.specs.declared.vec.Vec.{Vec}

-- the name of a record of a file
pub named : (name : Text) (tree : trees.File) (made : FileContent) → IsFile name tree made → made.name ≡ Some name
named name tree made h = ap (λ (c : FileContent). c.name) h.is

-- the record of a tree, once its locations are set
pub placed : (name z : Text) (feeds : List ℕ) (tree : trees.File) (file : FileContent) (ls : List LocationContent) → feeds ≡ feeds_of z → IsFile name tree file
    → AreLocations z feeds (file_view tree) ls → IsRecordOf name z tree (record file { source_code_info = Some ls })
placed name z feeds tree file ls same h located = record {
  bare = file;
  bare_is = h;
  locations = ls;
  located = subst (λ f. AreLocations z f (file_view tree) ls) same located;
  is = refl;
}

pub spelled : (name z : Text) (tree : trees.File) (r : Result FileDescriptorProto ParseError) → Spells z (file_view tree)
    → IfErr r (λ e. (e ≡ Memory) ⊎ HasFaults (file_view tree) (faults_of e)) → IfOk r (λ made. checks.faults_of (file_view tree) ≡ [])
    → IfOk r (λ made. IsRecordOf name z tree (records.file_view made)) → IsAnswered name z r
spelled name z tree (Ok made) s h none is = (tree, s, none, is)
spelled name z tree (Err Memory) s h none is = tt
spelled name z tree (Err (Refused r)) s (inl m) none is = absurd (cc m)
spelled name z tree (Err (Refused r)) s (inr h) none is = inr (file_view tree, s, h)

pub unspelled : (name z : Text) (f : Fault) (r : Refusal) (kind : ParseErrorKind) → RefusedBy z f
    → r.faults.items ≡ kind ∷ [] → IsToldAs f kind → IsAnswered name z (Err (Refused r))
unspelled name z f r kind refused alone told = inl (f, refused, (kind, alone, told))

-- a text that spells a tree is refused with all faults of this one
pub all_told : (name z : Text) (r : Refusal) (tree : File) → Spells z tree → IsAnswered name z (Err (Refused r)) → HasFaults tree r.faults.items
all_told name z r tree s (inl untold) = absurd (not_both z tree untold.0 s untold.1)
all_told name z r tree s (inr other) = subst (λ t. HasFaults t r.faults.items) (same_tree z other.0 tree other.1 s) other.2

-- and it is recorded only if this one has none
pub none_recorded : (name z : Text) (made : FileDescriptorProto) (tree : File) → Spells z tree → IsAnswered name z (Ok made) → checks.faults_of tree ≡ []
none_recorded name z made tree s h = ap checks.faults_of (same_tree z tree (file_view h.0) s h.1) ∙ h.2

-- a text that spelled a clean tree by the older grammar is not refused
pub not_refused : (name z : Text) (tree : File) (r : Refusal) → SpellsOlder z tree → checks.faults_of tree ≡ [] → IsAnswered name z (Err (Refused r)) → ⊥
not_refused name z tree r s none h = by r.faults.items (all_told name z r tree (older_spells z tree s) h) where
  by : (faults : List ParseErrorKind) → HasFaults tree faults → ⊥
  by faults told = omega (arith, told.1, ap length (told.0 ∙ none))

-- its record is that of this tree
pub same_record : (name z : Text) (tree : File) (made : FileDescriptorProto) → SpellsOlder z tree → IsAnswered name z (Ok made)
    → (t : trees.File) × (file_view t ≡ tree) × IsRecordOf name z t (records.file_view made)
same_record name z tree made s h = (h.0, same_tree z (file_view h.0) tree h.1 (older_spells z tree s), h.3)

-- ---- what a refusal tells

-- where its first fault begins, by the lines of the source
pub refused_there : (name source : Text) (feeds : List ℕ) (r : Refusal) → feeds ≡ feeds_of source
    → string_bytes r.file ≡ name → r.position ≡ option_and_then (place_among feeds) (first_span (Refused r)) → IsRefusalOf name source (Refused r)
refused_there name source feeds r same file position =
    (file, position ∙ ap (λ f. option_and_then (place_among f) (first_span (Refused r))) same)

-- that it is too large has no place
pub refused_nowhere : (name source : Text) (r : Refusal) → r.faults.items ≡ FileTooLarge ∷ []
    → string_bytes r.file ≡ name → r.position ≡ resolved None (first_span (Refused r)) → IsRefusalOf name source (Refused r)
refused_nowhere name source r alone file position =
    let nowhere : first_span (Refused r) ≡ None = ap (λ fs. option_and_then span_of (slice_get fs 0)) alone in
    (file, position ∙ ap (resolved None) nowhere ∙ sym (ap (option_and_then (place_in source)) nowhere))

-- ---- whether there are faults

pub none_there : (faults : Vec ParseErrorKind Global) (b : Bool) → b ≡ (vec_len faults == 0) → b ≡ true → faults.items ≡ []
none_there faults b is so =
    let n : length faults.items ≡ 0 = grind (arith, nat_tests, faults.ok.0) in
    nil_from_length faults.items n
