-- One more file of a batch.
use Rattle.std.proofs.Common.{◌≡◌, ℕ, zero, suc, ◌<◌, ◌≤◌, ◌+◌, ◌-◌, List, [], ◌∷◌, ◌++◌, take, length, get_or, ap, sym, subst, ◌∙◌, append_assoc, arith, refl}
use Rattle.std.proofs.lemmas.List.{take_more, append-nil, length-take-le}
use Rattle.descriptor_records.specs.declared.file.FileDescriptorProto.{FileDescriptorProto}
use Rattle.reflect_declarations.specs.declared.offsets.Offsets.{Offsets}
use Rattle.reflect_declarations.specs.Declarations.{Declaration, Runs, file_declarations, past_file}
use Rattle.reflect_declarations.specs.Batches.{past_files, batch_declarations, KeptBy}
use Rattle.reflect_walk.proofs.Walks.{runs_append}

past_push : (o : Offsets) (fs : List FileDescriptorProto) (f : FileDescriptorProto) → past_files o (fs ++ f ∷ []) ≡ past_file (past_files o fs) f
past_push o [] f = refl
past_push o (g ∷ fs) f = past_push (past_file o g) fs f

batch_push : (o : Offsets) (i : ℕ) (fs : List FileDescriptorProto) (f : FileDescriptorProto)
    → batch_declarations o i (fs ++ f ∷ []) ≡ batch_declarations o i fs ++ file_declarations (past_files o fs) (i + length fs) f
batch_push o i [] f = let e : i ≡ i + 0 = omega arith in append-nil (file_declarations o i f) ∙ ap (λ n. file_declarations o n f) e
batch_push o i (g ∷ fs) f =
    let e : i + 1 + length fs ≡ i + length (g ∷ fs) = omega arith in
    ap (λ ds. file_declarations o i g ++ ds) (batch_push (past_file o g) (i + 1) fs f ∙ ap (λ n. batch_declarations (past_file o g) (i + 1) fs ++ file_declarations (past_files (past_file o g) fs) n f) e)
    ∙ sym (append_assoc (file_declarations o i g) (batch_declarations (past_file o g) (i + 1) fs) (file_declarations (past_files (past_file o g) fs) (i + length (g ∷ fs)) f))

module _ (o : Offsets) (fs : List FileDescriptorProto) (k : ℕ) (d : FileDescriptorProto) (lt : k < length fs) where
  pub past_more : past_files o (take (k + 1) fs) ≡ past_file (past_files o (take k fs)) (get_or fs k d)
  past_more = ap (past_files o) (take_more fs k d lt) ∙ past_push o (take k fs) (get_or fs k d)

  pub batch_more : (i : ℕ) → batch_declarations o i (take (k + 1) fs) ≡ batch_declarations o i (take k fs) ++ file_declarations (past_files o (take k fs)) (i + k) (get_or fs k d)
  batch_more i =
      let len : length (take k fs) ≡ k = length-take-le k fs (omega arith) in
      ap (batch_declarations o i) (take_more fs k d lt) ∙ batch_push o i (take k fs) (get_or fs k d)
      ∙ ap (λ n. batch_declarations o i (take k fs) ++ file_declarations (past_files o (take k fs)) (i + n) (get_or fs k d)) len

-- a walk goes on by one file
pub run_file : {S : Type 0} (R : S → Declaration → S → Type 0) (o now : Offsets) (i at : ℕ) (fs : List FileDescriptorProto) (k : ℕ) (f : FileDescriptorProto) (s m t : S)
    → k < length fs → f ≡ get_or fs k f → now ≡ past_files o (take k fs) → at ≡ i + k
    → Runs R s (batch_declarations o i (take k fs)) m → Runs R m (file_declarations now at f) t → Runs R s (batch_declarations o i (take (k + 1) fs)) t
run_file R o now i at fs k f s m t lt is counts index before here =
    subst (λ ds. Runs R s ds t) (sym (batch_more o fs k f lt i))
    (runs_append R (batch_declarations o i (take k fs)) _ s m t before
    (subst (λ x. Runs R m (file_declarations (past_files o (take k fs)) (i + k) x) t) is
    (subst (λ n. Runs R m (file_declarations (past_files o (take k fs)) n f) t) index
    (subst (λ p. Runs R m (file_declarations p at f) t) counts here))))

module _ {S : Type 0} (kept : ℕ → S → S → Type 0) (i : ℕ) where
  pub kept_more : (n at : ℕ) (s m t : S) → at ≡ i + n → KeptBy kept i n s m → kept at m t → KeptBy kept i (n + 1) s t
  kept_more n at s m t index before now =
      let next : suc n ≡ n + 1 = omega arith in
      let both : KeptBy kept i (suc n) s t = (m, before, subst (λ j. kept j m t) index now) in
      subst (λ k. KeptBy kept i k s t) next both

  -- nothing is done at further files
  rest : ((j : ℕ) (s : S) → kept j s s) → (n k : ℕ) (s t : S) → KeptBy kept i n s t → KeptBy kept i (n + k) s t
  rest same n zero s t by = let e : n ≡ n + 0 = omega arith in subst (λ k. KeptBy kept i k s t) e by
  rest same n (suc k) s t by =
      let e : n + k + 1 ≡ n + suc k = omega arith in
      subst (λ j. KeptBy kept i j s t) e (kept_more (n + k) (i + (n + k)) s t t refl (rest same n k s t by) (same (i + (n + k)) t))

  pub kept_rest : ((j : ℕ) (s : S) → kept j s s) → (n all : ℕ) (s t : S) → n ≤ all → KeptBy kept i n s t → KeptBy kept i all s t
  kept_rest same n all s t le by = let e : n + (all - n) ≡ all = omega arith in subst (λ k. KeptBy kept i k s t) e (rest same n (all - n) s t by)
