-- The files of a pool by their names.
use Rattle.std.proofs.Common.{◌≡◌, ℕ, ◌<◌, ◌≤◌, List, Bool, true, false, cond, nat_lt, Option, Some, None, is_some, bytes_eq, length, get_or, ap, sym, ◌∙◌, arith, refl}
use Rattle.std.proofs.Math.ListN.{length-map}
use Rattle.std.proofs.lemmas.List as lists
use Rattle.std.proofs.lemmas.List.Sums.{fails_before_first, passes_at_first}
use Rattle.std.proofs.lemmas.Option.{same_Some, slice_get_within, slice_get-get_or, get_or_from_slice_get}
use Rattle.std.specs.Bool.{Decides}
use Rattle.std.specs.List.{Contains, position, position_or_len}
use Rattle.std.specs.Cmp.Lexicographic.{bytes_decides}
use Rattle.reflect_scope.specs.FileIndexes.{Indexes}
use Rattle.reflect_tables.specs.Finding.{IsFirst}
use Rattle.reflect_tables.specs.Types.{FileType}
use Rattle.reflect_tables.proofs.Founds.{no_some}
use Rattle.reflect_pool.specs.Imports.{names_of_files as names}
use Rattle.reflect_pool.specs.Linked.{AreIndexed}

-- the file of a name is the first of it
module _ (indexes : Indexes) (xs : List FileType) (are : AreIndexed indexes (names xs)) (t : List ℕ) where
  here : (k : ℕ) (d : FileType) → k < length xs → (get_or xs k d).name ≡ t → indexes t ≡ Some k
  here k d lt same =
      let all : length (names xs) ≡ length xs = length-map xs (λ (x : FileType). x.name) in
      (are t k).1 (slice_get-get_or (names xs) k d.name (omega (arith, lt, all)) ∙ ap Some (lists.get_or-map (λ (x : FileType). x.name) xs k d d.name lt ∙ same))

  pub first_file : (o : Option ℕ) → indexes t ≡ o → IsFirst (λ f. f.name ≡ t) xs o
  first_file None e = λ k d lt same. absurd (no_some k (sym e ∙ here k d lt same))
  first_file (Some i) e =
      let at = (are t i).0 e in
      let all : length (names xs) ≡ length xs = length-map xs (λ (x : FileType). x.name) in
      let long = slice_get_within (names xs) i t at in
      let lt : i < length xs = omega (arith, long, all) in (
        lt,
        (
          λ d. sym (lists.get_or-map (λ (x : FileType). x.name) xs i d d.name lt) ∙ get_or_from_slice_get (names xs) i t d.name at,
          λ k d low less same.
              let inside : k < length xs = omega (arith, less, lt) in
              let one : k ≡ i = same_Some k i (sym (here k d inside same) ∙ e) in
              absurd (omega (arith, one, less)),
        ),
      )

  -- the index of a name is its first place
  pub at_first : indexes t ≡ position (bytes_eq t) (names xs)
  at_first = by (nat_lt (position_or_len (bytes_eq t) (names xs)) (length (names xs))) refl where
    first : ℕ
    first = position_or_len (bytes_eq t) (names xs)

    none : (o : Option ℕ) → length (names xs) ≤ first → indexes t ≡ o → o ≡ None
    none None past is = refl
    none (Some i) past is =
        let at = (are t i).0 is in
        let long = slice_get_within (names xs) i t at in
        let fails = fails_before_first (bytes_eq t) (names xs) i t (omega (arith, long, past)) in
        let same = (bytes_decides t t).1 refl in
        absurd (let no = sym (ap (bytes_eq t) (get_or_from_slice_get (names xs) i t t at) ∙ same) ∙ fails in cc)

    by : (b : Bool) → nat_lt first (length (names xs)) ≡ b → indexes t ≡ cond (nat_lt first (length (names xs))) (Some first) None
    by true is =
        let lt : first < length (names xs) = grind (arith, is) in
        let same = (bytes_decides t (get_or (names xs) first t)).0 (passes_at_first (bytes_eq t) (names xs) t lt) in
        rw is ((are t first).1 (slice_get-get_or (names xs) first t lt ∙ ap Some (sym same)))
    by false is = let past : length (names xs) ≤ first = grind (arith, is) in rw is (none (indexes t) past refl)

  pub has_name : (r : Bool) → r ≡ is_some (indexes t) → Decides r (Contains (names xs) t)
  has_name r e = by (indexes t) refl where
    by : (o : Option ℕ) → indexes t ≡ o → Decides r (Contains (names xs) t)
    by None is =
        let no : r ≡ false = e ∙ ap is_some is in
        (λ yes. absurd (cc), λ h. absurd (no_some h.0 (sym is ∙ (are t h.0).1 (slice_get-get_or (names xs) h.0 t h.1 ∙ ap Some h.2))))
    by (Some i) is =
        let at = (are t i).0 is in
        (λ yes. (i, slice_get_within (names xs) i t at, get_or_from_slice_get (names xs) i t t at), λ h. e ∙ ap is_some is)
