-- What the visitor of names does at a declaration, and what each of its calls keeps.
use Rattle.std.specs.Prelude.{◌≡◌, ◌<◌, ◌≤◌, ℕ, ◌+◌, refl}
use Rattle.std.proofs.Common.{◌∙◌}
use Rattle.std.specs.BTreeMap.{get_by_text}
use Rattle.reflect_declarations.specs.Declarations.{Declaration}
use Rattle.reflect_scope.specs.Known.{Known, known_of, KeepsFirst, AllBelow}
use Rattle.reflect_faults.specs.Faults.{Adds, place_at}
use Rattle.reflect_known.specs.KnownNames.{known_after}
use Rattle.reflect_names.specs.Names.{faults_at}
use Rattle.reflect_names.specs.declared.name_visitor.NameVisitor.{NameVisitor}

pub record AddsName (s : NameVisitor) (d : Declaration) (t : NameVisitor) : Type 0 where
  pub known : known_of t.names ≡ known_after (known_of s.names) d
  pub faults : Adds s.faults t.faults
      (faults_at (place_at s.faults d.file) (known_of s.names)
      (λ n. get_by_text s.file_names.now n) d)
  pub file_names : t.file_names.now ≡ s.file_names.now

-- the files before define what they did, and new definitions are of this file
pub record KeepsKnown (file : ℕ) (old new : Known) : Type 0 where
  pub kept : (mark : ℕ) → mark ≤ file → KeepsFirst mark old new
  pub bound : (top : ℕ) → file < top → AllBelow top old → AllBelow top new

pub record KeepsNames (file : ℕ) (s t : NameVisitor) : Type 0 where
  pub file_names : t.file_names.now ≡ s.file_names.now
  pub known : KeepsKnown file (known_of s.names) (known_of t.names)

pub known-same : (file : ℕ) (known : Known) → KeepsKnown file known known
known-same file known = record { kept = λ mark le t. refl; bound = λ top lt all. all }

pub known-on : (file : ℕ) (a b c : Known) → KeepsKnown file a b → KeepsKnown file b c
    → KeepsKnown file a c
known-on file a b c k l = record {
  kept = λ mark le t. l.kept mark le t ∙ k.kept mark le t;
  bound =
      λ top lt all. l.bound top lt (k.bound top lt all);
}

pub KeepsNames-same : (file : ℕ) (s : NameVisitor) → KeepsNames file s s
KeepsNames-same file s = record { file_names = refl; known = known-same file (known_of s.names) }

pub KeepsNames-on : (file : ℕ) (s t u : NameVisitor) → KeepsNames file s t → KeepsNames file t u
    → KeepsNames file s u
KeepsNames-on file s t u k l = record {
  file_names = l.file_names ∙ k.file_names;
  known = known-on file (known_of s.names) (known_of t.names) (known_of u.names) k.known l.known;
}

-- the files before define what they did, and new definitions are of so many files, the first of
-- which has this index
pub record KeepsFrom (first count : ℕ) (old new : Known) : Type 0 where
  pub kept : (mark : ℕ) → mark ≤ first → KeepsFirst mark old new
  pub bound : (top : ℕ) → first + count ≤ top → AllBelow top old → AllBelow top new
