-- What holds of each declaration of a batch, linked, by what its names mean.
use Rattle.std.proofs.Common.{◌≡◌, ◌∙◌, ◌+◌, inl, inr, ℕ, suc, Bool, List, [], ◌∷◌, Some, None, ap, sym, subst, refl, arith}
use Rattle.std.specs.List.{Contains, AllByRecursion}
use Rattle.descriptor_records.specs.Content.{FileContent, file_view}
use Rattle.descriptor_records.specs.declared.file.FileDescriptorProto.{FileDescriptorProto}
use Rattle.reflect_scope.specs.FileIndexes.{Indexes}
use Rattle.reflect_scope.specs.Known.{Known}
use Rattle.reflect_declarations.specs.declared.offsets.Offsets.{Offsets}
use Rattle.reflect_declarations.specs.Declarations.{Declaration, Body, file_declaration, file_declarations, past_file}
use Rattle.reflect_declarations.specs.Batches.{batch_declarations}
use Rattle.reflect_names.specs.Names.{Places}
use Rattle.reflect_names.specs.References.{View, reference_faults_at}
use Rattle.reflect_names.specs.ReferencePass.{views_of, reference_faults_along}
use Rattle.reflect_index.proofs.Counted.{file_next}
use Rattle.reflect_passes.specs.Linked.{linked_values}
use Rattle.reflect_passes.specs.declared.linked_types.LinkedTypes.{LinkedTypes}
use Rattle.reflect_rules.specs.Walks.{Facts}
use Rattle.schema_view.specs.Declarations as view
use Rattle.schema_view.specs.References.{Reference, Target as Naming, dotted, linked}
use Rattle.schema_view.proofs.Lists.{contains_there, contains_cases, contains_none, contains_map_cases}
use Rattle.schema_view.proofs.Renames.{rename_body, renamed, declarations_renamed}
use Rattle.linked_view.specs.AtHand.{IsMetBy, AreMetBy}
use Rattle.linked_view.specs.Known.{AreKnown}
use Rattle.linked_view.proofs.Faults.{none_both}
use Rattle.linked_view.proofs.Known.{next_file}
use Rattle.linked_view.proofs.Linked.{meanings, AreAt, sees_at, sees_of}
use Rattle.linked_view.proofs.Named.{in_all, all_in, all_split, content_to}
use Rattle.linked_view.proofs.Walked.{Seen, seen, told, inner_declarations}

module _ (files : List FileDescriptorProto) (known : Known) (are : AreKnown files known)
    (indexes : Indexes) (sees : ℕ → ℕ → Bool) (t : LinkedTypes) (g : Facts) (at : ℕ → Places) where
  -- no reference of a declaration is wrong, and what they mean is as it should be
  abbrev pub IsGood : (ℕ → View) → Declaration → Type 0
  IsGood views d = (reference_faults_at (at d.file) (views d.file) d ≡ [])
      × IsMetBy g (linked_values t) (views d.file) d

  pub all_good : (views : ℕ → View) (ds : List Declaration) → reference_faults_along at views ds ≡ []
      → AreMetBy g (linked_values t) views ds → AllByRecursion (IsGood views) ds
  all_good views [] none met = tt
  all_good views (d ∷ ds) none met =
      let parts = none_both (reference_faults_at (at d.file) (views d.file) d)
      (reference_faults_along at views ds) none in
      ((parts.0, met.0), all_good views ds parts.1 met.1)

  module _ (P : view.Body → Type 0) where
    module _ (f : FileContent) where
      abbrev pub names : Reference → Naming
      names r = dotted (meanings files known are indexes sees f r)

      abbrev pub see : View
      see = record { known = known; sees = sees_of files known are indexes sees f }

      abbrev pub HoldsSeen : Seen → Type 0
      HoldsSeen s = elim s.1 [ None ↦ Unit {0} | Some b ↦ P (rename_body names s.0 b) ]

      -- of one declaration
      abbrev pub HoldsOne : Type 0
      HoldsOne = (d : Declaration) (b : Body)
          → reference_faults_at (at d.file) see (record d { body = b }) ≡ []
          → IsMetBy g (linked_values t) see (record d { body = b })
          → HoldsSeen (seen (record d { body = b }))

    module _ (one : (f : FileContent) → HoldsOne f) where
      along_holds : (f : FileContent) (views : ℕ → View) (i : ℕ) → views i ≡ see f → (ds : List Declaration)
          → AllByRecursion (λ (d : Declaration). d.file ≡ i) ds → AllByRecursion (IsGood views) ds
          → AllByRecursion (λ (d : Declaration). HoldsSeen f (seen d)) ds
      along_holds f views i is [] own h = tt
      along_holds f views i is (d ∷ ds) own h =
          let here = subst (λ v. (reference_faults_at (at d.file) v d ≡ [])
          × IsMetBy g (linked_values t) v d) (ap views own.0 ∙ is) h.0 in
          (one f d d.body here.0 here.1, along_holds f views i is ds own.1 h.1)

      file_holds : (views : ℕ → View) (o : Offsets) (i : ℕ) (f : FileDescriptorProto)
          → views i ≡ see (file_view f)
          → AllByRecursion (IsGood views) (file_declarations o i f) → (v : view.Declaration)
          → Contains (view.declarations
          (linked (meanings files known are indexes sees (file_view f)) (file_view f))) v
          → P v.body
      file_holds views o i f is good v j =
          let c = file_view f in
          let inner = inner_declarations o i f in
          let own = all_in (λ (d : Declaration). d.file ≡ i) inner (λ d k.
          next_file i o (past_file o f) (file_declarations o i f) d (file_next i o f)
          (contains_there (file_declaration [] i f) inner d k)) in
          let all = content_to o i f (HoldsSeen c) (along_holds c views i is inner own good.1) in
          let k = contains_map_cases (renamed (names c)) (view.declarations c) v
          (subst (λ ds. Contains ds v) (declarations_renamed (names c) c) j) in
          subst (λ (x : view.Declaration). P x.body) k.2
          (in_all (λ (x : view.Declaration). HoldsSeen c (told x)) (view.declarations c) all k.0 k.1)

      pub batch_holds : (o : Offsets) (i : ℕ) (fs : List FileDescriptorProto)
          → AreAt files known are indexes sees i fs
          → AllByRecursion (IsGood (views_of known sees)) (batch_declarations o i fs)
          → (f : FileDescriptorProto) → Contains fs f → (v : view.Declaration)
          → Contains (view.declarations
          (linked (meanings files known are indexes sees (file_view f)) (file_view f))) v
          → P v.body
      batch_holds o i [] place good f h = absurd (contains_none f h)
      batch_holds o i (x ∷ fs) place good f h =
          let views = views_of known sees in
          let zero_place : i + 0 ≡ i = omega arith in
          let here = place 0 x refl ∙ ap Some zero_place in
          let rest = batch_declarations (past_file o x) (i + 1) fs in
          let parts = all_split (IsGood views) (file_declarations o i x) rest good in
          let first = file_holds views o i x
          (ap (λ (s : ℕ → Bool). record { known = known; sees = s })
          (sym (sees_at files known are indexes sees x i here))) parts.0 in
          let later = batch_holds (past_file o x) (i + 1) fs
          (λ k y e. (let to : i + suc k ≡ i + 1 + k = omega arith in place (suc k) y e ∙ ap Some to))
          parts.1 f in
          elim (contains_cases x fs f h) [
            | inl e ↦ subst (λ (y : FileDescriptorProto). (v : view.Declaration)
                → Contains (view.declarations
                (linked (meanings files known are indexes sees (file_view y)) (file_view y))) v
                → P v.body) e first
            | inr j ↦ later j
          ]
