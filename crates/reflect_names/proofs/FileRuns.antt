-- One more file of a batch.
use Rattle.std.proofs.Common.{Some, Option, None, is_some, Bool, true, false, cond, bytes_eq, string_bytes, Global, String, ◌≡◌, ℕ, ◌+◌, ◌<◌, ◌≤◌, List, [], ◌∷◌, ◌++◌, take, length, get_or, ap, sym, subst, ◌∙◌, append_assoc, arith, refl}
use Rattle.std.proofs.lemmas.List.{take_more, append-nil, length-take-le}
use Rattle.std.specs.Map.{update}
use Rattle.std.specs.Cmp.Lexicographic.{bytes_decides}
use Rattle.std.proofs.lemmas.Option.{same_Some}
use Rattle.descriptor_records.specs.declared.file.FileDescriptorProto.{FileDescriptorProto}
use Rattle.reflect_faults.specs.Faults.{Adds, place_at}
use Rattle.reflect_faults.specs.declared.faults.Faults.{Faults}
use Rattle.reflect_names.specs.Names.{Places}
use Rattle.reflect_scope.specs.FileIndexes.{Indexes, KeepsIndexes}
use Rattle.reflect_names.specs.FileNames.{file_faults, with_file, with_files, files_faults}
use Rattle.reflect_faults.proofs.Added.{adds_on, same_places}

pub with_new : (known : Indexes) (i : ℕ) (s : String Global) → is_some (known (string_bytes s)) ≡ false → with_file known i (Some s) ≡ update bytes_eq known (string_bytes s) (Some i)
with_new known i s new = rw new refl

pub faults_new : (at : Places) (known : Indexes) (s : String Global) → is_some (known (string_bytes s)) ≡ false → file_faults at known (Some s) ≡ []
faults_new at known s new = rw new refl

with_push : (known : Indexes) (i : ℕ) (fs : List FileDescriptorProto) (f : FileDescriptorProto)
    → with_files known i (fs ++ f ∷ []) ≡ with_file (with_files known i fs) (i + length fs) f.name
with_push known i [] f = let e : i ≡ i + 0 = omega arith in ap {B = Indexes} (λ n. with_file known n f.name) e
with_push known i (g ∷ fs) f =
    let e : i + 1 + length fs ≡ i + length (g ∷ fs) = omega arith in
    with_push (with_file known i g.name) (i + 1) fs f ∙ ap {B = Indexes} (λ n. with_file (with_files (with_file known i g.name) (i + 1) fs) n f.name) e

faults_push : (at : ℕ → Places) (known : Indexes) (i : ℕ) (fs : List FileDescriptorProto) (f : FileDescriptorProto)
    → files_faults at known i (fs ++ f ∷ []) ≡ files_faults at known i fs ++ file_faults (at (i + length fs)) (with_files known i fs) f.name
faults_push at known i [] f = let e : i ≡ i + 0 = omega arith in append-nil (file_faults (at i) known f.name) ∙ ap (λ n. file_faults (at n) known f.name) e
faults_push at known i (g ∷ fs) f =
    let next = with_file known i g.name in
    let e : i + 1 + length fs ≡ i + length (g ∷ fs) = omega arith in
    ap (λ xs. file_faults (at i) known g.name ++ xs) (faults_push at next (i + 1) fs f ∙ ap (λ n. files_faults at next (i + 1) fs ++ file_faults (at n) (with_files next (i + 1) fs) f.name) e)
    ∙ sym (append_assoc (file_faults (at i) known g.name) (files_faults at next (i + 1) fs) (file_faults (at (i + length (g ∷ fs))) (with_files next (i + 1) fs) f.name))

module _ (known now : Indexes) (i at k : ℕ) (fs : List FileDescriptorProto) (f : FileDescriptorProto)
    (lt : k < length fs) (is : f ≡ get_or fs k f) (index : at ≡ i + k) (same : now ≡ with_files known i (take k fs)) where
  len : length (take k fs) ≡ k
  len = length-take-le k fs (omega arith)

  pub with_more : with_file now at f.name ≡ with_files known i (take (k + 1) fs)
  with_more =
      ap {B = Indexes} (λ m. with_file m at f.name) same
      ∙ ap {B = Indexes} (λ n. with_file (with_files known i (take k fs)) n f.name) (index ∙ ap (λ n. i + n) (sym len))
      ∙ ap {B = Indexes} (λ g. with_file (with_files known i (take k fs)) (i + length (take k fs)) g.name) is
      ∙ sym (ap (with_files known i) (take_more fs k f lt) ∙ with_push known i (take k fs) (get_or fs k f))

  pub faults_more : (s t u : Faults) → Adds s t (files_faults (place_at s) known i (take k fs)) → Adds t u (file_faults (place_at t at) now f.name)
      → Adds s u (files_faults (place_at s) known i (take (k + 1) fs))
  faults_more s t u before here =
      let placed = subst (λ p. Adds t u (file_faults p now f.name)) (same_places s t _ before at) here in
      let named = subst (λ m. Adds t u (file_faults (place_at s at) m f.name)) same placed in
      let set = subst (λ n. Adds t u (file_faults (place_at s n) (with_files known i (take k fs)) f.name)) (index ∙ ap (λ n. i + n) (sym len)) named in
      let last = subst (λ g. Adds t u (file_faults (place_at s (i + length (take k fs))) (with_files known i (take k fs)) g.name)) is set in
      let pushed = ap (files_faults (place_at s) known i) (take_more fs k f lt) ∙ faults_push (place_at s) known i (take k fs) (get_or fs k f) in
      subst (Adds s u) (sym pushed) (adds_on s t u _ _ before last)

pub keeps_on : (low high : ℕ) (a b c : Indexes) → low ≤ high → KeepsIndexes low a b → KeepsIndexes high b c → KeepsIndexes low a c
keeps_on low high a b c le k l = λ t i lt. let more : i < high = omega (arith, lt, le) in (λ e. (l t i more).0 ((k t i lt).0 e), λ e. (k t i lt).1 ((l t i more).1 e))

-- a new name has an index that is not below
pub keeps_new : (known now : Indexes) (i : ℕ) (name : List ℕ) → is_some (known name) ≡ false → now ≡ update bytes_eq known name (Some i) → KeepsIndexes i known now
keeps_new known now i name new e = subst (KeepsIndexes i known) (sym e) (λ t k lt. by t k lt (bytes_eq name t) refl) where
  no : (o : Option ℕ) (k : ℕ) → is_some o ≡ false → o ≡ Some k → ⊥
  no None k is h = absurd (cc)
  no (Some x) k is h = absurd (cc)

  by : (t : List ℕ) (k : ℕ) → k < i → (b : Bool) → bytes_eq name t ≡ b → (known t ≡ Some k → cond (bytes_eq name t) (Some i) (known t) ≡ Some k) × (cond (bytes_eq name t) (Some i) (known t) ≡ Some k → known t ≡ Some k)
  by t k lt true is = rw is (
    λ h. absurd (no (known t) k (ap (λ n. is_some (known n)) (sym ((bytes_decides name t).0 is)) ∙ new) h),
    λ h. let same : i ≡ k = same_Some i k h in absurd (omega (arith, same, lt)),
  )
  by t k lt false is = rw is (λ h. h, λ h. h)
