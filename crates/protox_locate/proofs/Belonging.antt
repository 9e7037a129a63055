-- Which blocks are taken, and what is left.
use Rattle.std.proofs.Common.{◌≡◌, ◌-◌, Bool, true, false, List, [], ◌∷◌, ◌++◌, Option, Some, None, MatchOption, take, drop, length, ap, sym, ◌∙◌, refl, arith}
use Rattle.std.specs.Prelude.{option_map, option_to_list, slice_get}
use Rattle.std.proofs.lemmas.List.{append-nil, length_push, take-append-le}
use Rattle.std.proofs.lemmas.Option.{slice_get-get_or}
use Rattle.std.proofs.Math.Seq.{get_or-append_seam, take-length}
use Rattle.protox_lex.specs.Blocks.{Blocks}
use Rattle.protox_lex.specs.Class.{Text}
use Rattle.protox_locate.specs.Gap.{Notes, detached_of, leading_of, notes_behind, notes_of}

abbrev pub notes : Option Text → List Text → Option Text → Notes
notes t ds l = record { trailing = t; detached = ds; leading = l }

last_is : (ds : List Text) (t : Text) → (detached_of false (ds ++ t ∷ []) ≡ ds) × (leading_of false (ds ++ t ∷ []) ≡ Some t)
last_is ds t =
    let ts = ds ++ t ∷ [] in
    let long = length_push ds t in
    let n : length ts - 1 ≡ length ds = omega (arith, long) in (
      ap (λ k. take k ts) n ∙ take-append-le (length ds) ds (t ∷ []) (omega arith) ∙ take-length ds,
      ap (slice_get ts) n ∙ slice_get-get_or ts (length ds) t (omega (arith, long)) ∙ ap Some (get_or-append_seam ds t [] t),
    )

module _ {A : Type 0} (f : A → Text) where
  -- All blocks are those that stand apart and, where no blank line follows it, the last one.
  pub all_are : (first : Option Text) (is_parted : Bool) (ts ds : List Text) (o : Option A) → ts ≡ ds ++ option_to_list (option_map f o)
      → (is_parted ≡ true → o ≡ None) → (is_parted ≡ false → o ≡ None → ts ≡ []) → notes first ds (option_map f o) ≡ notes_behind first is_parted ts
  all_are first true ts ds None is parted last = ap (λ y. notes first y None) (sym (is ∙ append-nil ds))
  all_are first true ts ds (Some x) is parted last = absurd (cc (parted refl))
  all_are first false ts ds None is parted last =
      let none : ts ≡ [] = last refl refl in
      let same : ds ≡ [] = sym (append-nil ds) ∙ sym is ∙ none in
      rw (none, same) refl
  all_are first false ts ds (Some x) is parted last =
      let e = last_is ds (f x) in
      rw is (ap (λ y. notes first y (Some (f x))) (sym e.0) ∙ ap (notes first (detached_of false (ds ++ f x ∷ []))) (sym e.1))

  taken_is : (r : Option A) (old new : Blocks) → MatchOption r ((old.texts ≡ []) × (new ≡ old)) (λ t. old.texts ≡ f t ∷ new.texts)
      → (option_map f r ≡ slice_get old.texts 0) × (new.texts ≡ drop 1 old.texts)
  taken_is None old new h = (ap (λ ts. slice_get ts 0) (sym h.0), ap (λ (b : Blocks). b.texts) h.1 ∙ h.0 ∙ ap (drop 1) (sym h.0))
  taken_is (Some t) old new h = (ap (λ ts. slice_get ts 0) (sym h), ap (drop 1) (sym h))

  -- the first block is taken
  pub first_taken : (old new : Blocks) (r : Option A) (ds : List Text) (o : Option A) → MatchOption r ((old.texts ≡ []) × (new ≡ old)) (λ t. old.texts ≡ f t ∷ new.texts)
      → new.is_parted ≡ old.is_parted → new.texts ≡ ds ++ option_to_list (option_map f o) → (new.is_parted ≡ true → o ≡ None) → (new.is_parted ≡ false → o ≡ None → new.texts ≡ [])
      → notes (option_map f r) ds (option_map f o) ≡ notes_of true old
  first_taken old new r ds o h same is parted last =
      let e = taken_is r old new h in
      all_are (option_map f r) new.is_parted new.texts ds o is parted last
      ∙ ap (λ t. notes_behind t new.is_parted new.texts) e.0 ∙ ap (λ b. notes_behind (slice_get old.texts 0) b new.texts) same ∙ ap (notes_behind (slice_get old.texts 0) old.is_parted) e.1
