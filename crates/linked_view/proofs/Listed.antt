-- What a batch's declarations give, one after another, is what those of the linked files give.
use Rattle.std.proofs.Common.{◌≡◌, ◌∙◌, ◌+◌, ℕ, suc, Bool, List, [], ◌∷◌, ◌++◌, Some, None, map, append_assoc, ap, sym, refl, arith}
use Rattle.std.specs.List.{AllByRecursion, flat_map}
use Rattle.descriptor_records.specs.Content.{FileContent, file_view}
use Rattle.descriptor_records.specs.declared.file.FileDescriptorProto.{FileDescriptorProto}
use Rattle.reflect_scope.specs.FileIndexes.{Indexes}
use Rattle.reflect_scope.specs.Known.{Known}
use Rattle.reflect_declarations.specs.declared.offsets.Offsets.{Offsets}
use Rattle.reflect_declarations.specs.Declarations.{Declaration, Body, file_declaration, file_declarations, past_file}
use Rattle.reflect_declarations.specs.Batches.{batch_declarations}
use Rattle.reflect_names.specs.References.{View}
use Rattle.reflect_names.specs.ReferencePass.{views_of}
use Rattle.reflect_index.proofs.Counted.{file_next}
use Rattle.schema_view.specs.Declarations as view
use Rattle.schema_view.specs.References.{Reference, Target as Naming, dotted, linked}
use Rattle.schema_view.specs.Lawful.{all_linked}
use Rattle.schema_view.proofs.Lists.{contains_there}
use Rattle.schema_view.proofs.Renames.{renamed, declarations_renamed}
use Rattle.linked_view.specs.Known.{AreKnown}
use Rattle.linked_view.proofs.Known.{next_file}
use Rattle.linked_view.proofs.Linked.{meanings, AreAt, sees_at, sees_of}
use Rattle.linked_view.proofs.Named.{all_in}
use Rattle.linked_view.proofs.Walked.{Seen, seen, told, inner_declarations, file_seen}

module _ {X : Type 0} (by_view : View → Declaration → List X)
    (of_view : view.Declaration → List X) where
  abbrev pub listed_along : (ℕ → View) → List Declaration → List X
  listed_along views [] = []
  listed_along views (d ∷ ds) = by_view (views d.file) d ++ listed_along views ds

  abbrev pub listed_in : List FileContent → List X
  listed_in fs = flat_map (λ f. flat_map of_view (view.declarations f)) fs

  listed_both : (views : ℕ → View) (a b : List Declaration)
      → listed_along views (a ++ b) ≡ listed_along views a ++ listed_along views b
  listed_both views [] b = refl
  listed_both views (d ∷ a) b =
      ap (λ ks. by_view (views d.file) d ++ ks) (listed_both views a b)
      ∙ sym (append_assoc (by_view (views d.file) d) (listed_along views a) (listed_along views b))

  module _ (files : List FileDescriptorProto) (known : Known) (are : AreKnown files known)
      (indexes : Indexes) (sees : ℕ → ℕ → Bool) where
    abbrev pub names : FileContent → Reference → Naming
    names f r = dotted (meanings files known are indexes sees f r)

    abbrev pub see : FileContent → View
    see f = record { known = known; sees = sees_of files known are indexes sees f }

    abbrev pub listed_seen : FileContent → Seen → List X
    listed_seen f s = elim s.1 [
      | None ↦ []
      | Some b ↦ of_view (renamed (names f) (record { name = s.0; body = b }))
    ]

    -- a file gives nothing, and a declaration what it gives there
    pub record GivesSame : Type 0 where
      pub none : (v : View) (i : ℕ) (f : FileDescriptorProto)
          → by_view v (file_declaration [] i f) ≡ []
      pub one : (f : FileContent) (d : Declaration) (b : Body)
          → by_view (see f) (record d { body = b }) ≡ listed_seen f (seen (record d { body = b }))

    module _ (gives : GivesSame) where
      along_listed : (f : FileContent) (views : ℕ → View) (i : ℕ) → views i ≡ see f
          → (ds : List Declaration) → AllByRecursion (λ (d : Declaration). d.file ≡ i) ds
          → listed_along views ds ≡ flat_map (listed_seen f) (map seen ds)
      along_listed f views i is [] h = refl
      along_listed f views i is (d ∷ ds) h =
          let here : by_view (views d.file) d ≡ listed_seen f (seen d) =
          ap (λ v. by_view v d) (ap views h.0 ∙ is) ∙ gives.one f d d.body in
          ap (λ ks. ks ++ listed_along views ds) here
          ∙ ap (λ ks. listed_seen f (seen d) ++ ks) (along_listed f views i is ds h.1)

      told_listed : (f : FileContent) (vs : List view.Declaration)
          → flat_map (listed_seen f) (map told vs) ≡ flat_map of_view (map (renamed (names f)) vs)
      told_listed f [] = refl
      told_listed f (v ∷ vs) =
          ap (λ ks. of_view (renamed (names f) v) ++ ks) (told_listed f vs)

      file_listed : (views : ℕ → View) (o : Offsets) (i : ℕ) (f : FileDescriptorProto)
          → views i ≡ see (file_view f)
          → listed_along views (file_declarations o i f) ≡ flat_map of_view (view.declarations
          (linked (meanings files known are indexes sees (file_view f)) (file_view f)))
      file_listed views o i f is =
          let c = file_view f in
          let inner = inner_declarations o i f in
          let own = all_in (λ (d : Declaration). d.file ≡ i) inner (λ d j.
          next_file i o (past_file o f) (file_declarations o i f) d (file_next i o f)
          (contains_there (file_declaration [] i f) inner d j)) in
          ap (λ ks. ks ++ listed_along views inner) (gives.none (views i) i f)
          ∙ along_listed c views i is inner own
          ∙ ap (flat_map (listed_seen c)) (file_seen o i f)
          ∙ told_listed c (view.declarations c)
          ∙ ap (flat_map of_view) (sym (declarations_renamed (names c) c))

      pub batch_listed : (o : Offsets) (i : ℕ) (fs : List FileDescriptorProto)
          → AreAt files known are indexes sees i fs
          → listed_along (views_of known sees) (batch_declarations o i fs)
          ≡ listed_in (all_linked (meanings files known are indexes sees) (map file_view fs))
      batch_listed o i [] at = refl
      batch_listed o i (f ∷ fs) at =
          let c = file_view f in
          let views = views_of known sees in
          let zero_place : i + 0 ≡ i = omega arith in
          let here = at 0 f refl ∙ ap Some zero_place in
          let own = file_listed views o i f
          (ap (λ (s : ℕ → Bool). record { known = known; sees = s })
          (sym (sees_at files known are indexes sees f i here))) in
          let later = batch_listed (past_file o f) (i + 1) fs
          (λ k g e. (let place : i + suc k ≡ i + 1 + k = omega arith in at (suc k) g e ∙ ap Some place)) in
          listed_both views (file_declarations o i f) (batch_declarations (past_file o f) (i + 1) fs)
          ∙ ap (λ ks. ks ++ listed_along views (batch_declarations (past_file o f) (i + 1) fs)) own
          ∙ ap (λ ks. flat_map of_view
          (view.declarations (linked (meanings files known are indexes sees c) c)) ++ ks) later
