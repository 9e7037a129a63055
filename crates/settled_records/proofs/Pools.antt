-- Where the options of a file settle alike in two pools, its record is the same afterwards.
use Rattle.std.proofs.Common.{◌≡◌, ◌⊎◌, ◌≤◌, ◌<◌, ◌+◌, ◌-◌, ℕ, zero, suc, List, map, length, fold, Some, slice_get, inl, inr, ap, sym, subst, ◌∙◌, arith}
use Rattle.std.proofs.lemmas.Bool.{cases_order}
use Rattle.std.proofs.lemmas.List.Sums.{fold-append}
use Rattle.std.proofs.lemmas.Option.{same_Some, slice_get-map}
use Rattle.std.specs.Option.{option_map}
use Rattle.descriptor_records.specs.Content.{FileContent, file_view, unlocated}
use Rattle.descriptor_records.specs.declared.file.FileDescriptorProto.{FileDescriptorProto}
use Rattle.option_parts.specs.Moves.{EditsLocations}
use Rattle.reflect_growth.specs.Put.{edited}
use Rattle.reflect_growth.specs.declared.settle.Edit.{Edit}
use Rattle.reflect_faults.specs.Spans.{locations}
use Rattle.reflect_options.specs.Entities.{file_entities}
use Rattle.reflect_options.specs.Settling.{SettlesFile, SettlesFiles, SettlesPool, target_in}
use Rattle.reflect_tables.specs.Types.{PoolType}
use Rattle.settled_records.proofs.Changes.{change_of, changed, changed_on, edits_elsewhere, edits_there}
use Rattle.settled_records.proofs.Mixed.{all_left, entities_alike}
use Rattle.settled_records.proofs.Moved.{locations_alike, same_locations}
use Rattle.settled_records.proofs.Placed.{all_elsewhere, file_edits, files_elsewhere}
use Rattle.settled_records.proofs.Walk.{same_entities}
use Rattle.settled_records.specs.Alike.{AllSettleAlike}

-- ---- one file
module _ (p q : PoolType) where
  -- the same file: its entities, and then its locations
  file_alike : (i j : ℕ) (f g : FileDescriptorProto) (es ds : List Edit) → file_view f ≡ file_view g → AllSettleAlike p q i j f g → SettlesFile p i f es → SettlesFile q j g ds
      → changed (file_view f) (map change_of es) ≡ changed (file_view g) (map change_of ds)
  file_alike i j f g es ds same agree (options, moved, ms, settles, locates, is) (others, went, ns, settled, located, are) =
      let x : FileContent = file_view f in
      let left = all_left p q i f x (λ path o stands. stands) in
      let first : (changed x (map change_of options) ≡ changed x (map change_of others)) × (ms ≡ ns) = entities_alike p q (file_entities i f) (file_entities j g) x options others ms ns (same_entities i j f g (ap unlocated same)) agree left settles settled in
      let behind : map change_of moved ≡ map change_of went = locations_alike (target_in ns) i j 0 (locations f) (locations g) moved went (same_locations f g same)
      (subst (λ ts. EditsLocations (target_in ts) i 0 (locations f) moved) first.1 locates) located in
      changed_on x es options moved is ∙ (λ k. changed (first.0 k) (behind k)) ∙ sym (changed_on x ds others went are) ∙ ap (λ (y : FileContent). changed y (map change_of ds)) same

-- ---- one of the files of a pool
-- what the content of a file comes to by the edits that settle its options
abbrev pub Comes : PoolType → ℕ → FileDescriptorProto → FileContent → List FileContent → Type 0
Comes pool i f x fs = (own : List Edit) × SettlesFile pool i f own × (slice_get fs i ≡ Some (changed x (map change_of own)))

-- those of the files before it and behind it leave it
among : (pool : PoolType) (first n i : ℕ) (es : List Edit) (f : FileDescriptorProto) (fs : List FileContent) (x : FileContent) → SettlesFiles pool first n es → first ≤ i → i < first + n
    → slice_get pool.records i ≡ Some f → slice_get fs i ≡ Some x → Comes pool i f x (fold edited fs es)
among pool first zero i es f fs x none far near found there = absurd (omega arith)
among pool first (suc n) i es f fs x (front, own, g, before, has, settles, is) far near found there =
    by (cases_order (first + n) i) (λ more. among pool first n i front f fs x before far more found there)
  where
    parts : slice_get (fold edited fs es) i ≡ slice_get (fold edited (fold edited fs front) own) i
    parts = ap (λ ds. slice_get (fold edited fs ds) i) is ∙ ap (λ gs. slice_get gs i) (fold-append edited fs front own)

    by : (first + n ≡ i) ⊎ ((first + n < i) ⊎ (i < first + n)) → (i < first + n → Comes pool i f x (fold edited fs front)) → Comes pool i f x (fold edited fs es)
    by (inl same) others =
        let one : g ≡ f = same_Some g f (sym has ∙ ap (slice_get pool.records) same ∙ found) in
        let here : SettlesFile pool i f own = subst (λ h. SettlesFile pool i h own) one (subst (λ k. SettlesFile pool k g own) same settles) in
        let last : first + n ≤ i = omega arith in
        let stays = edits_elsewhere i front fs (files_elsewhere pool first n i front last before) in
        (own, here, parts ∙ edits_there i own (fold edited fs front) x (file_edits pool i f own here) (stays ∙ there))
    by (inr (inl less)) others = absurd (omega arith)
    by (inr (inr more)) others =
        let r : Comes pool i f x (fold edited fs front) = others more in
        let apart : first + n ≡ i → ⊥ = λ e. omega arith in
        let stays = edits_elsewhere i own (fold edited fs front) (all_elsewhere (first + n) i apart own (file_edits pool (first + n) g own settles)) in
        (r.0, r.1, parts ∙ stays ∙ r.2)

-- ---- the pools
-- what the content of one of the files is once they are settled
pub in_pool : (pool new : PoolType) (first i : ℕ) (f : FileDescriptorProto) → SettlesPool pool first new → first ≤ i → i < length pool.files → slice_get pool.records i ≡ Some f
    → Comes pool i f (file_view f) (map file_view new.records)
in_pool pool new first i f settles far near found =
    let there : slice_get (map file_view pool.records) i ≡ Some (file_view f) = slice_get-map file_view pool.records i ∙ ap (option_map file_view) found in
    let inside : i < first + (length pool.files - first) = omega arith in
    let all = among pool first (length pool.files - first) i settles.edits f (map file_view pool.records) (file_view f) settles.settled far inside found there in
    (all.0, all.1, ap (λ fs. slice_get fs i) settles.put ∙ all.2)

pub settle_alike : (p q new other : PoolType) (first second i j : ℕ) (f g : FileDescriptorProto) → SettlesPool p first new → SettlesPool q second other → first ≤ i → i < length p.files
    → second ≤ j → j < length q.files → slice_get p.records i ≡ Some f → slice_get q.records j ≡ Some g → file_view f ≡ file_view g → AllSettleAlike p q i j f g
    → slice_get (map file_view new.records) i ≡ slice_get (map file_view other.records) j
settle_alike p q new other first second i j f g settles settled far near beyond within found there same agree =
    let a = in_pool p new first i f settles far near found in
    let b = in_pool q other second j g settled beyond within there in
    a.2 ∙ ap Some (file_alike p q i j f g a.0 b.0 same agree a.1 b.1) ∙ sym b.2
