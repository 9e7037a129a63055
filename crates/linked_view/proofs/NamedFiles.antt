-- The pass over names finds nothing wrong with files themselves exactly where they are files.
use Rattle.std.proofs.Common.{◌≡◌, ◌≤◌, ◌<◌, ◌+◌, ◌∙◌, ◌⊎◌, inl, inr, ℕ, ℤ, pos, negsuc, Bool, true, false, cond, ◌||◌, List, [], ◌∷◌, ◌++◌, Option, Some, None, is_some, String, Global, string_bytes, bytes_eq, codes, map, length, ap, sym, subst, refl, arith, nat_lt}
use Rattle.std.specs.List.{Contains, AllByRecursion}
use Rattle.std.specs.Cmp.Lexicographic.{bytes_decides}
use Rattle.std.proofs.lemmas.List.{map-append, length-map}
use Rattle.descriptor_records.specs.Content.{Text, FileContent, text_view, file_view}
use Rattle.descriptor_records.specs.declared.file.FileDescriptorProto.{FileDescriptorProto}
use Rattle.reflect_scope.specs.FileIndexes.{Indexes, is_index}
use Rattle.reflect_declarations.specs.Tree.{text_of}
use Rattle.reflect_declarations.specs.Declarations.{each}
use Rattle.reflect_tables.specs.Views.{record_file}
use Rattle.reflect_names.specs.FileNames.{file_faults, with_file, with_files, files_faults}
use Rattle.reflect_names.specs.Names.{Places, import_fault, public_fault, import_faults, syntax_faults}
use Rattle.reflect_names.proofs.FileRuns.{with_new}
use Rattle.reflect_pool.specs.Imports.{names_of_files}
use Rattle.schema_view.specs.Files as files
use Rattle.schema_view.specs.Files.{Import, imports_from, imports_of, file_name, IsThere}
use Rattle.schema_view.specs.Outlines.{IsNamed, times, times_named}
use Rattle.schema_view.specs.Lawful.{outlines, IsFile}
use Rattle.schema_view.proofs.Lists.{contains_here, contains_there, contains_cases, contains_none, contains_map, contains_map_cases}
use Rattle.schema_view.proofs.Renames.{map_same}
use Rattle.linked_view.specs.NamedFiles.{HaveNoFault, AreFiles}
use Rattle.linked_view.proofs.Counts.{one_if, bytes_same, bytes_refl, times-cons, weighs, weighed, named_often, often_named, times_outlined, IsPlaced, placed_times, times-append}
use Rattle.linked_view.proofs.Faults.{none_both, both_none, unless_to, unless_from, when_to, when_from, each_to, each_from}
use Rattle.linked_view.proofs.Walked.{text_seen}

abbrev pub names_in : List FileDescriptorProto → List Text
names_in fs = map (λ f. text_of f.name) fs

abbrev pub AreNamed : List FileDescriptorProto → Type 0
AreNamed fs = AllByRecursion (λ (f : FileDescriptorProto). is_some f.name ≡ true) fs

-- no name is known or stands there twice
abbrev IsFresh : Indexes → List Text → Type 0
IsFresh known names = (n : Text) → one_if (is_some (known n)) + times n names ≤ 1

file_to : (at : Places) (known : Indexes) (o : Option (String Global)) → file_faults at known o ≡ []
    → (is_some o ≡ true) × (is_some (known (text_of o)) ≡ false)
file_to at known None e = absurd (cc e)
file_to at known (Some s) e = (refl, when_to (is_some (known (string_bytes s))) _ e)

file_from : (at : Places) (known : Indexes) (o : Option (String Global)) → is_some o ≡ true
    → is_some (known (text_of o)) ≡ false → file_faults at known o ≡ []
file_from at known None named new = absurd (cc named)
file_from at known (Some s) named new = when_from (is_some (known (string_bytes s))) _ new

-- a new name counts once more
counted : (known : Indexes) (i : ℕ) (o : Option (String Global)) → is_some o ≡ true
    → is_some (known (text_of o)) ≡ false → (n : Text)
    → one_if (is_some (with_file known i o n))
    ≡ one_if (bytes_eq (text_of o) n) + one_if (is_some (known n))
counted known i None named new n = absurd (cc named)
counted known i (Some s) named new n =
    ap (λ (m : Indexes). one_if (is_some (m n))) (with_new known i s new)
    ∙ by (bytes_eq (string_bytes s) n) refl where
      by : (b : Bool) → bytes_eq (string_bytes s) n ≡ b
          → one_if (is_some (cond (bytes_eq (string_bytes s) n) (Some i) (known n)))
          ≡ one_if (bytes_eq (string_bytes s) n) + one_if (is_some (known n))
      by true is =
          let same = ap (λ t. one_if (is_some (known t))) (bytes_same (string_bytes s) n is) in
          let none : one_if (is_some (known n)) ≡ 0 = sym same ∙ ap one_if new in
          rw is (omega (arith, none))
      by false is = rw is (omega arith)

few : (b : Bool) → one_if b + 0 ≤ 1
few true = omega arith
few false = omega arith

faults_to : (at : ℕ → Places) (known : Indexes) (i : ℕ) (fs : List FileDescriptorProto)
    → files_faults at known i fs ≡ [] → AreNamed fs × IsFresh known (names_in fs)
faults_to at known i [] e = (tt, λ n. few (is_some (known n)))
faults_to at known i (f ∷ fs) e =
    let next = with_file known i f.name in
    let parts = none_both (file_faults (at i) known f.name) (files_faults at next (i + 1) fs) e in
    let one = file_to (at i) known f.name parts.0 in
    let rest = faults_to at next (i + 1) fs parts.1 in (
      (one.0, rest.0),
      λ n.
          let count = counted known i f.name one.0 one.1 n in
          let le = rest.1 n in
          let sum = times-cons n (text_of f.name) (names_in fs) in
          omega (arith, count, le, sum),
    )

-- the first name is new, and the others are behind it
module _ (known : Indexes) (i : ℕ) (f : FileDescriptorProto) (fs : List FileDescriptorProto)
    (named : is_some f.name ≡ true) (fresh : IsFresh known (names_in (f ∷ fs))) where
  first_new : is_some (known (text_of f.name)) ≡ false
  first_new = by (is_some (known (text_of f.name))) refl where
    by : (b : Bool) → is_some (known (text_of f.name)) ≡ b
        → is_some (known (text_of f.name)) ≡ false
    by false is = is
    by true is =
        let le = fresh (text_of f.name) in
        let sum = times-cons (text_of f.name) (text_of f.name) (names_in fs) in
        let here = weighs (bytes_eq (text_of f.name) (text_of f.name)) (bytes_refl (text_of f.name)) in
        let old = weighs (is_some (known (text_of f.name))) is in
        absurd (omega (arith, le, sum, here, old))

  later_fresh : IsFresh (with_file known i f.name) (names_in fs)
  later_fresh n =
      let count = counted known i f.name named first_new n in
      let le = fresh n in
      let sum = times-cons n (text_of f.name) (names_in fs) in
      omega (arith, count, le, sum)

faults_from : (at : ℕ → Places) (known : Indexes) (i : ℕ) (fs : List FileDescriptorProto)
    → AreNamed fs → IsFresh known (names_in fs) → files_faults at known i fs ≡ []
faults_from at known i [] named fresh = refl
faults_from at known i (f ∷ fs) named fresh =
    both_none (file_faults (at i) known f.name) (files_faults at (with_file known i f.name) (i + 1) fs)
    (file_from (at i) known f.name named.0 (first_new known i f fs named.0 fresh))
    (faults_from at (with_file known i f.name) (i + 1) fs named.1
    (later_fresh known i f fs named.0 fresh))

-- behind the files a name is known as often as it was, and as it is among theirs
with_count : (known : Indexes) (i : ℕ) (fs : List FileDescriptorProto) → AreNamed fs
    → IsFresh known (names_in fs) → (n : Text)
    → one_if (is_some (with_files known i fs n)) ≡ one_if (is_some (known n)) + times n (names_in fs)
with_count known i [] named fresh n = omega arith
with_count known i (f ∷ fs) named fresh n =
    let rest = with_count (with_file known i f.name) (i + 1) fs named.1
    (later_fresh known i f fs named.0 fresh) n in
    let count = counted known i f.name named.0 (first_new known i f fs named.0 fresh) n in
    let sum = times-cons n (text_of f.name) (names_in fs) in
    omega (arith, rest, count, sum)

-- the names of records are those of their contents
names_seen : (fs : List FileDescriptorProto) → map file_name (map file_view fs) ≡ names_in fs
names_seen fs = map_same file_name file_view (λ (f : FileDescriptorProto). text_of f.name)
    (λ f. text_seen f.name) fs

pub names_recorded : (fs : List FileDescriptorProto) → names_of_files (map record_file fs) ≡ names_in fs
names_recorded fs = map_same (λ f. f.name) record_file (λ (f : FileDescriptorProto). text_of f.name)
    (λ f. refl) fs

outlined_times : (n : Text) (old new : List FileDescriptorProto)
    → times_named n (outlines (map file_view old ++ map file_view new))
    ≡ times n (names_in old) + times n (names_in new)
outlined_times n old new =
    times_outlined n (map file_view old ++ map file_view new)
    ∙ ap (times n) (map-append file_name (map file_view old) (map file_view new))
    ∙ ap (λ xs. times n (xs ++ map file_name (map file_view new))) (names_seen old)
    ∙ ap (λ xs. times n (names_in old ++ xs)) (names_seen new)
    ∙ times-append n (names_in old) (names_in new)

pub import_in : (publics : List ℤ) (k : ℕ) (ts : List Text) (i : Import)
    → Contains (imports_from publics k ts) i → Contains ts i.file
import_in publics k [] i h = absurd (contains_none i h)
import_in publics k (t ∷ ts) i h = elim (contains_cases _ _ i h) [
  | inl same ↦ subst (λ (x : Import). Contains (t ∷ ts) x.file) same (contains_here t ts)
  | inr j ↦ contains_there t ts i.file (import_in publics (k + 1) ts i j)
]

pub in_import : (publics : List ℤ) (k : ℕ) (ts : List Text) (t : Text) → Contains ts t
    → (i : Import) × Contains (imports_from publics k ts) i × (i.file ≡ t)
in_import publics k [] t h = absurd (contains_none t h)
in_import publics k (s ∷ ts) t h = by (contains_cases s ts t h) (in_import publics (k + 1) ts t)
  where
    here : Import
    here = record { file = s; is_public = files.has_place k publics }

    by : (s ≡ t) ⊎ Contains ts t
        → (Contains ts t → (i : Import) × Contains (imports_from publics (k + 1) ts) i
        × (i.file ≡ t))
        → (i : Import) × Contains (imports_from publics k (s ∷ ts)) i × (i.file ≡ t)
    by (inl e) rest = (here, contains_here here _, e)
    by (inr j) rest = let r = rest j in (r.0, contains_there here _ r.0 r.1, r.2)

-- a public import has a place among so many
pub place_to : (z : ℤ) (count : ℕ) → is_index z count ≡ true → (k : ℕ) × (z ≡ pos k) × (k < count)
place_to (pos k) count e = (k, refl, grind (arith, e))
place_to (negsuc k) count e = absurd (cc e)

pub place_from : (z : ℤ) (count : ℕ) → (k : ℕ) × (z ≡ pos k) × (k < count) → is_index z count ≡ true
place_from z count (k, is, lt) =
    let there : nat_lt k count ≡ true = grind (arith, lt) in
    ap (λ y. is_index y count) is ∙ there

abbrev is_syntax : Text → Bool
is_syntax s = bytes_eq s (codes "proto2") || bytes_eq s (codes "proto3")

syntax_of : (s : Text) → is_syntax s ≡ true → (s ≡ codes "proto2") ⊎ (s ≡ codes "proto3")
syntax_of s e = by (bytes_eq s (codes "proto2")) refl where
  by : (b : Bool) → bytes_eq s (codes "proto2") ≡ b → (s ≡ codes "proto2") ⊎ (s ≡ codes "proto3")
  by true is = inl (bytes_same s _ is)
  by false is = inr (bytes_same s _ (sym (ap (λ b. b || bytes_eq s (codes "proto3")) is) ∙ e))

or_right : (a b : Bool) → b ≡ true → (a || b) ≡ true
or_right true b e = refl
or_right false b e = e

of_syntax : (s : Text) → (s ≡ codes "proto2") ⊎ (s ≡ codes "proto3") → is_syntax s ≡ true
of_syntax s (inl e) =
    ap (λ b. b || bytes_eq s (codes "proto3")) ((bytes_decides s (codes "proto2")).1 e)
of_syntax s (inr e) = or_right _ _ ((bytes_decides s (codes "proto3")).1 e)

pub syntax_to : (at : Places) (o : Option (String Global)) → syntax_faults at o ≡ []
    → (text_view o ≡ None)
    ⊎ ((text_view o ≡ Some (codes "proto2")) ⊎ (text_view o ≡ Some (codes "proto3")))
syntax_to at None e = inl refl
syntax_to at (Some s) e =
    inr (elim (syntax_of (string_bytes s) (unless_to (is_syntax (string_bytes s)) _ e)) [
      | inl is ↦ inl (ap Some is)
      | inr is ↦ inr (ap Some is)
    ])

pub syntax_from : (at : Places) (o : Option (String Global)) → (text_view o ≡ None)
    ⊎ ((text_view o ≡ Some (codes "proto2")) ⊎ (text_view o ≡ Some (codes "proto3")))
    → syntax_faults at o ≡ []
syntax_from at None h = refl
syntax_from at (Some s) (inl e) = absurd (cc e)
syntax_from at (Some s) (inr (inl e)) =
    unless_from (is_syntax (string_bytes s)) _ (of_syntax (string_bytes s) (inl (cc e)))
syntax_from at (Some s) (inr (inr e)) =
    unless_from (is_syntax (string_bytes s)) _ (of_syntax (string_bytes s) (inr (cc e)))

pub name_to : (o : Option (String Global)) → is_some o ≡ true → IsThere (text_view o)
name_to None e = absurd (cc e)
name_to (Some s) e = (string_bytes s, refl)

pub name_from : (o : Option (String Global)) → IsThere (text_view o) → is_some o ≡ true
name_from None (t, e) = absurd (cc e)
name_from (Some s) h = refl

named_at : (fs : List FileDescriptorProto) → AreNamed fs → (f : FileDescriptorProto) → Contains fs f
    → is_some f.name ≡ true
named_at [] all f h = absurd (contains_none f h)
named_at (g ∷ fs) all f h = elim (contains_cases g fs f h) [
  | inl same ↦ subst (λ (x : FileDescriptorProto). is_some x.name ≡ true) same all.0
  | inr j ↦ named_at fs all.1 f j
]

all_named : (fs : List FileDescriptorProto)
    → ((f : FileDescriptorProto) → Contains fs f → is_some f.name ≡ true) → AreNamed fs
all_named [] all = tt
all_named (g ∷ fs) all =
    (all g (contains_here g fs), all_named fs (λ f i. all f (contains_there g fs f i)))

module _ (at : ℕ → Places) where
  pub one_import : (k : ℕ) (files : Indexes) (f : FileDescriptorProto) → import_faults (at k) files f ≡ []
      → (s : String Global) → Contains f.dependency.items s → is_some (files (string_bytes s)) ≡ true
  one_import k files f e =
      each_to (import_fault (at k) files) (λ s. is_some (files (string_bytes s)) ≡ true)
      (λ j s none. unless_to (is_some (files (string_bytes s))) _ none) 0 f.dependency.items
      (none_both (each (import_fault (at k) files) 0 f.dependency.items) _ e).0

  pub one_public : (k : ℕ) (files : Indexes) (f : FileDescriptorProto) → import_faults (at k) files f ≡ []
      → (z : ℤ) → Contains f.public_dependency.items z
      → is_index z (length f.dependency.items) ≡ true
  one_public k files f e =
      let count = length f.dependency.items in
      each_to (public_fault (at k) count) (λ z. is_index z count ≡ true)
      (λ j z none. unless_to (is_index z count) _ none) 0 f.public_dependency.items
      (none_both (each (import_fault (at k) files) 0 f.dependency.items) _ e).1

  pub all_imports : (k : ℕ) (files : Indexes) (f : FileDescriptorProto)
      → ((s : String Global) → Contains f.dependency.items s
      → is_some (files (string_bytes s)) ≡ true)
      → ((z : ℤ) → Contains f.public_dependency.items z
      → is_index z (length f.dependency.items) ≡ true) → import_faults (at k) files f ≡ []
  all_imports k files f imports publics =
      let count = length f.dependency.items in
      both_none (each (import_fault (at k) files) 0 f.dependency.items) _
      (each_from (import_fault (at k) files) (λ s. is_some (files (string_bytes s)) ≡ true)
      (λ j s some. unless_from (is_some (files (string_bytes s))) _ some) 0 f.dependency.items
      imports)
      (each_from (public_fault (at k) count) (λ z. is_index z count ≡ true)
      (λ j z some. unless_from (is_index z count) _ some) 0 f.public_dependency.items publics)

module _ (at : ℕ → Places) (indexes : Indexes) (first : ℕ) (old new : List FileDescriptorProto)
    (placed : IsPlaced indexes (names_of_files (map record_file old))) where
  old_times : (n : Text) → one_if (is_some (indexes n)) ≡ times n (names_in old)
  old_times n = placed_times indexes (names_of_files (map record_file old)) placed n
      ∙ ap (times n) (names_recorded old)

  -- a name stands for a file behind the new ones as often as it is the name of one
  with_named : AreNamed new → IsFresh indexes (names_in new) → (n : Text)
      → one_if (is_some (with_files indexes first new n))
      ≡ times_named n (outlines (map file_view old ++ map file_view new))
  with_named named fresh n =
      let count = with_count indexes first new named fresh n in
      let was = old_times n in
      let is = outlined_times n old new in
      omega (arith, count, was, is)

  many : (f : FileDescriptorProto) → length (map string_bytes f.dependency.items)
      ≡ length f.dependency.items
  many f = length-map f.dependency.items string_bytes

  pub files_to : HaveNoFault at indexes first new → AreFiles (map file_view old) (map file_view new)
  files_to h =
      let parts = faults_to at indexes first new h.names in
      let is_file : (f : FileDescriptorProto) → Contains new f → IsFile (file_view f) =
      λ f i. record {
        name = name_to f.name (named_at new parts.0 f i);
        syntax = syntax_to (at 0) f.syntax (h.syntax 0 f i);
        publics = λ z j.
            let p = place_to z (length f.dependency.items)
            (one_public at 0 (with_files indexes first new) f (h.imports 0 f i) z j) in
            (p.0, p.1, subst (λ n. p.0 < n) (sym (many f)) p.2);
      } in
      record {
        names = λ n.
            let le = parts.1 n in
            let was = old_times n in
            let is = outlined_times n old new in
            omega (arith, le, was, is);
        files = λ g i. let f = contains_map_cases file_view new g i in
            subst IsFile f.2 (is_file f.0 f.1);
        imports = λ g x i j.
            let f = contains_map_cases file_view new g i in
            let k = subst (λ (c : FileContent). Contains (imports_of c) x) (sym f.2) j in
            let t = import_in f.0.public_dependency.items 0 (map string_bytes f.0.dependency.items) x k in
            let s = contains_map_cases string_bytes f.0.dependency.items x.file t in
            let some = one_import at 0 (with_files indexes first new) f.0 (h.imports 0 f.0 f.1) s.0 s.1 in
            let count = with_named parts.0 parts.1 (string_bytes s.0) in
            let one = weighs (is_some (with_files indexes first new (string_bytes s.0))) some in
            let os = outlines (map file_view old ++ map file_view new) in
            subst (IsNamed os) s.2 (often_named os (string_bytes s.0) (omega (arith, count, one)));
      }

  pub files_from : AreFiles (map file_view old) (map file_view new) → HaveNoFault at indexes first new
  files_from h =
      let file : (f : FileDescriptorProto) → Contains new f → IsFile (file_view f) =
      λ f i. h.files (file_view f) (contains_map file_view new f i) in
      let named = all_named new (λ f i. name_from f.name (file f i).name) in
      let fresh : IsFresh indexes (names_in new) = λ n.
      let le = h.names n in let was = old_times n in let is = outlined_times n old new in
      omega (arith, le, was, is) in
      let known = with_files indexes first new in
      record {
        names = faults_from at indexes first new named fresh;
        imports = λ k f i. all_imports at k known f
            (λ s j.
            let t = contains_map string_bytes f.dependency.items s j in
            let x = in_import f.public_dependency.items 0 (map string_bytes f.dependency.items)
            (string_bytes s) t in
            let os = outlines (map file_view old ++ map file_view new) in
            let is = h.imports (file_view f) x.0 (contains_map file_view new f i) x.1 in
            let often = named_often os (string_bytes s) (subst (IsNamed os) x.2 is) in
            let count = with_named named fresh (string_bytes s) in
            weighed (is_some (known (string_bytes s))) (omega (arith, often, count)))
            (λ z j.
            let p = (file f i).publics z j in
            place_from z (length f.dependency.items)
            (p.0, p.1, subst (λ n. p.0 < n) (many f) p.2));
        syntax = λ k f i. syntax_from (at k) f.syntax (file f i).syntax;
      }
