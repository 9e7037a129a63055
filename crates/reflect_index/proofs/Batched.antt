-- The names of a batch of files, and the places that they stand for.
use Rattle.std.proofs.Common.{◌≡◌, ℕ, ◌+◌, List, [], ◌∷◌, ◌++◌, length, Bool, true, false, cond, Option, ap, sym, subst, ◌∙◌, append_assoc, arith, refl}
use Rattle.descriptor_records.specs.declared.file.FileDescriptorProto.{FileDescriptorProto}
use Rattle.reflect_declarations.specs.declared.offsets.Offsets.{Offsets}
use Rattle.reflect_declarations.specs.Declarations.{Declaration, file_declarations, past_file}
use Rattle.reflect_declarations.specs.Batches.{batch_declarations, past_files}
use Rattle.reflect_scope.specs.Known.{Known}
use Rattle.reflect_known.specs.KnownNames.{known_after, known_behind}
use Rattle.reflect_names.specs.Names.{Places, faults_at}
use Rattle.reflect_names.specs.NamePass.{faults_along}
use Rattle.reflect_tables.specs.Names.{Sort, FullName, AreFound, AreInOrder, found}
use Rattle.reflect_known.specs.DeclaredNames.{is_of, with_name, with_names}
use Rattle.reflect_index.proofs.Counted.{file_next}
use Rattle.reflect_index.proofs.Known.{offset, walked, none_left, none_right}
use Rattle.reflect_index.proofs.Orders.{AreUpTo, up_to_more, walk_ordered}

pub known_on : (known : Known) (xs ys : List Declaration) → known_behind known (xs ++ ys)
    ≡ known_behind (known_behind known xs) ys
known_on known [] ys = refl
known_on known (x ∷ xs) ys = known_on (known_after known x) xs ys

pub faults_on : (at : ℕ → Places) (files : List ℕ → Option ℕ) (known : Known) (xs ys : List Declaration)
    → faults_along at files known (xs ++ ys) ≡ faults_along at files known xs ++ faults_along at files (known_behind known xs) ys
faults_on at files known [] ys = refl
faults_on at files known (x ∷ xs) ys =
    let here = faults_at (at x.file) known files x in
    ap (λ fs. here ++ fs) (faults_on at files (known_after known x) xs ys)
    ∙ sym (append_assoc here (faults_along at files (known_after known x) xs) (faults_along at files (known_behind (known_after known x) xs) ys))

pub names_on : (s : Sort) (names : List FullName) (xs ys : List Declaration)
    → with_names s names (xs ++ ys) ≡ with_names s (with_names s names xs) ys
names_on s names [] ys = refl
names_on s names (x ∷ xs) ys = names_on s (with_name s names x) xs ys

one_behind : (names more : List FullName) (x : FullName) (b : Bool) → cond b ((names ++ more) ++ x ∷ []) (names ++ more) ≡ names ++ cond b (more ++ x ∷ []) more
one_behind names more x true = append_assoc names more (x ∷ [])
one_behind names more x false = refl

-- the names of declarations stand behind others
pub names_behind : (s : Sort) (names more : List FullName) (ds : List Declaration) → with_names s (names ++ more) ds ≡ names ++ with_names s more ds
names_behind s names more [] = refl
names_behind s names more (d ∷ ds) =
    ap (λ ns. with_names s ns ds) (one_behind names more (d.name, d.file) (is_of s d.body)) ∙ names_behind s names (with_name s more d) ds

-- the names of a sort, as many as the offsets say, and of files up to this one
pub record Stand (s : Sort) (known : Known) (names : List FullName) (file : ℕ) (o : Offsets) : Type 0 where
  pub found : AreFound (found s known) names
  pub count : length names ≡ offset s o
  pub up_to : AreUpTo file names
  pub in_order : AreInOrder names

one_file : (s : Sort) (at : ℕ → Places) (files : List ℕ → Option ℕ) (known : Known) (names : List FullName) (o : Offsets) (i : ℕ) (f : FileDescriptorProto)
    → Stand s known names i o → faults_along at files known (file_declarations o i f) ≡ []
    → Stand s (known_behind known (file_declarations o i f)) (with_names s names (file_declarations o i f)) (i + 1) (past_file o f)
one_file s at files known names o i f stand none =
    let ds = file_declarations o i f in
    let next = file_next i o f in
    let w = walked s at files known names i o (past_file o f) ds stand.found stand.count next none in
    let v = walk_ordered s names i o (past_file o f) ds next stand.up_to stand.in_order in
    record { found = w.0; count = w.1; up_to = up_to_more i (i + 1) (with_names s names ds) (omega arith) v.0; in_order = v.1 }

-- behind a batch without faults they stand for their places
pub batch_stands : (s : Sort) (at : ℕ → Places) (files : List ℕ → Option ℕ) (known : Known) (names : List FullName) (o : Offsets) (i : ℕ) (fs : List FileDescriptorProto)
    → Stand s known names i o → faults_along at files known (batch_declarations o i fs) ≡ []
    → Stand s (known_behind known (batch_declarations o i fs)) (with_names s names (batch_declarations o i fs)) (i + length fs) (past_files o fs)
batch_stands s at files known names o i [] stand none = subst (λ n. Stand s known names n o) (omega arith) stand
batch_stands s at files known names o i (f ∷ fs) stand none =
    let xs = file_declarations o i f in
    let ys = batch_declarations (past_file o f) (i + 1) fs in
    let split = sym (faults_on at files known xs ys) ∙ none in
    let first = one_file s at files known names o i f stand (none_left (faults_along at files known xs) (faults_along at files (known_behind known xs) ys) split) in
    let later = batch_stands s at files (known_behind known xs) (with_names s names xs) (past_file o f) (i + 1) fs first (none_right (faults_along at files known xs) (faults_along at files (known_behind known xs) ys) split) in
    let count : i + 1 + length fs ≡ i + length (f ∷ fs) = omega arith in
    subst (λ n. Stand s (known_behind known (xs ++ ys)) (with_names s names (xs ++ ys)) n (past_files o (f ∷ fs))) count
    (subst (λ ns. Stand s (known_behind known (xs ++ ys)) ns (i + 1 + length fs) (past_files o (f ∷ fs))) (sym (names_on s names xs ys))
    (subst (λ k. Stand s k (with_names s (with_names s names xs) ys) (i + 1 + length fs) (past_files o (f ∷ fs))) (sym (known_on known xs ys)) later))
