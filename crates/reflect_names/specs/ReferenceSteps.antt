-- What the visitor of references does at a declaration.
use Rattle.std.specs.Prelude.{◌≡◌, ◌<◌, ◌≤◌, ◌↔◌, ℕ, false, List, ◌++◌, map, length, IsTrue, refl, string_bytes}
use Rattle.std.proofs.Common.{◌∙◌}
use Rattle.descriptor_records.specs.declared.file.FileDescriptorProto.{FileDescriptorProto}
use Rattle.reflect_scope.specs.Seen.{tells}
use Rattle.reflect_scope.specs.Sees.{Sees}
use Rattle.reflect_declarations.specs.declared.offsets.Offsets.{Offsets}
use Rattle.reflect_declarations.specs.Declarations.{Declaration, of_file}
use Rattle.reflect_scope.specs.Known.{known_of}
use Rattle.reflect_faults.specs.Faults.{Fault, Adds, place_at}
use Rattle.reflect_names.specs.References.{View, Target, targets_of, reference_faults_at}
use Rattle.reflect_names.specs.ReferencePass.{BatchReferences}
use Rattle.reflect_names.specs.declared.resolve_visitor.Reference.{Reference}
use Rattle.reflect_names.specs.declared.resolve_visitor.ResolveVisitor.{ResolveVisitor}

abbrev pub target_of : Reference → Target
target_of r = (string_bytes r.name, r.definition)

abbrev pub view_of : ResolveVisitor → View
view_of s = record { known = known_of s.names.now; sees = tells s.seen }

-- at a file: what it sees is seen from then on, and no index of no file; elsewhere that stays
abbrev pub Looks : ResolveVisitor → Declaration → ResolveVisitor → Type 0
Looks s d t = elim d.body [
  | of_file f ↦ ((g : ℕ) → g < length s.links.now
      → (IsTrue (tells t.seen g) ↔ Sees s.links.now d.file g))
      × ((g : ℕ) → length s.links.now ≤ g → tells t.seen g ≡ false)
  | _ ↦ tells t.seen ≡ tells s.seen
]

pub record Refers (s : ResolveVisitor) (d : Declaration) (t : ResolveVisitor) : Type 0 where
  pub references : map target_of t.references.items ≡ map target_of s.references.items
      ++ targets_of (view_of s) d
  pub faults : Adds s.faults t.faults (reference_faults_at (place_at s.faults d.file) (view_of s) d)
  pub looks : Looks s d t
  pub names : t.names.now ≡ s.names.now
  pub links : t.links.now ≡ s.links.now

-- references and faults are added, as given
pub record Finds (s t : ResolveVisitor) (more : List Target) (wrong : List Fault) : Type 0 where
  pub references : map target_of t.references.items ≡ map target_of s.references.items ++ more
  pub faults : Adds s.faults t.faults wrong

-- names, links and what is seen are as they were
pub record IsSame (s t : ResolveVisitor) : Type 0 where
  pub names : t.names.now ≡ s.names.now
  pub links : t.links.now ≡ s.links.now
  pub seen : t.seen ≡ s.seen

pub record Stays (file : ℕ) (s t : ResolveVisitor) : Type 0 where
  pub names : t.names.now ≡ s.names.now
  pub links : t.links.now ≡ s.links.now

pub Stays-same : (file : ℕ) (s : ResolveVisitor) → Stays file s s
Stays-same file s = record { names = refl; links = refl }

pub Stays-on : (file : ℕ) (s t u : ResolveVisitor) → Stays file s t → Stays file t u
    → Stays file s u
Stays-on file s t u k l = record { names = l.names ∙ k.names; links = l.links ∙ k.links }

-- the references of files are found, with their faults
pub record ResolvesFiles (s : ResolveVisitor) (before : Offsets) (first : ℕ)
    (files : List FileDescriptorProto) (t : ResolveVisitor) : Type 0 where
  pub means : List Target
  pub wrong : List Fault
  pub right : BatchReferences (known_of s.names.now) s.links.now (place_at s.faults) before first
      files means wrong
  pub finds : Finds s t means wrong
