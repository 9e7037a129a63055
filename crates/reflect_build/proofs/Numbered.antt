-- The extensions of a pool by their messages and numbers, as these come and go.
use Rattle.std.proofs.Common.{◌≡◌, ℕ, ℤ, ◌<◌, ◌≤◌, ◌+◌, List, [], ◌∷◌, ◌++◌, Bool, true, false, ◌||◌, cond, nat_lt, Option, Some, None, is_some, map, take, length, slice_get, append_assoc, ⊎_elim, ap, sym, subst, ◌∙◌, arith, refl}
use Rattle.std.proofs.Math.ListN.{length-append}
use Rattle.std.proofs.lemmas.List.{append-nil, take-map}
use Rattle.std.proofs.lemmas.Map.Entries.{lookup-filter-values, option_filter}
use Rattle.std.proofs.lemmas.Map.Keys.{IsDistinct-from_sorted}
use Rattle.std.proofs.lemmas.Option.{same_Some, slice_get_within}
use Rattle.std.specs.BTreeMap.{BTreeMap, IsOrdered}
use Rattle.std.specs.Cmp.{eq_by_cmp_equiv}
use Rattle.std.specs.List.{AllByRecursion, filter}
use Rattle.std.specs.Map.{lookup, keys_of}
use Rattle.std.specs.Ordering.{eq_by_cmp}
use Rattle.reflect_faults.specs.Faults.{Fault, Place}
use Rattle.reflect_tables.specs.Names.{FullName, AreInOrder, extension_name}
use Rattle.reflect_tables.specs.Types.{ExtensionType}
use Rattle.reflect_tables.specs.Views.{extension_of}
use Rattle.reflect_tables.specs.declared.stored.StoredExtension.{StoredExtension}
use Rattle.reflect_tables.proofs.Founds.{no_some, last, front, either}
use Rattle.reflect_index.proofs.Known.{none_left, none_right}
use Rattle.reflect_tables.specs.ExtensionNumbers.{KeyType, Numbers, KeepsNumbers, key_cmp, numbers_of}
use Rattle.reflect_passes.specs.Extensions.{has_key, with_number, with_numbers, double_faults, extension_faults}
use Rattle.reflect_passes.specs.Linked.{linked_says}
use Rattle.reflect_passes.specs.declared.linked_types.LinkedTypes.{LinkedTypes}
use Rattle.reflect_passes.proofs.Numbered.{same_key}
use Rattle.reflect_pool.specs.Linked.{AreNumbered, key_of}
use Rattle.reflect_build.proofs.Back.{filter_from}
use Rattle.reflect_build.proofs.Indexed.{low_some, taken}
use Rattle.reflect_build.proofs.Pooled.{map-append}
use Rattle.reflect_growth.proofs.Filters.{map_map}
use Rattle.reflect_pool.proofs.Numbered.{key_total}

-- the places where only those below a count are left
pub places_kept : (count : ℕ) (m n : BTreeMap KeyType ℕ) → IsOrdered key_cmp m → n.entries ≡ filter (λ e. nat_lt e.1 count) m.entries → (k : KeyType) → numbers_of n k ≡ option_filter (λ i. nat_lt i count) (numbers_of m k)
places_kept count m n up e k =
    ap (lookup (eq_by_cmp key_cmp k)) e
    ∙ lookup-filter-values (eq_by_cmp_equiv key_total) (λ i. nat_lt i count) k m.entries (IsDistinct-from_sorted key_cmp (keys_of m.entries) up)

-- behind a refusal, which may have put in numbers of further extensions
pub numbered_back : (mark : ℕ) (old mid new : Numbers) (keys : List KeyType) → mark ≡ length keys → KeepsNumbers mark old mid → ((k : KeyType) → new k ≡ option_filter (λ i. nat_lt i mark) (mid k)) → AreNumbered old keys → AreNumbered new keys
numbered_back mark old mid new keys count keeps same are = λ k i. (
  λ e. let low = (low_some mark (mid k) i).0 (sym (same k) ∙ e) in (are k i).0 ((keeps k i low.1).1 low.0),
  λ e. let long = slice_get_within keys i k e in
      let lt : i < mark = omega (arith, long, count) in
      same k ∙ (low_some mark (mid k) i).1 ((keeps k i lt).0 ((are k i).1 e)) lt,
)

later : (mark low : ℕ) (xs : List ExtensionType) → mark ≤ low → AllByRecursion (λ (y : FullName). low ≤ y.1) (map extension_name xs) → AllByRecursion (λ (x : ExtensionType). mark ≤ x.file) xs
later mark low [] le all = tt
later mark low (x ∷ xs) le all = let high : low ≤ x.file = all.0 in (omega (arith, high, le), later mark low xs le all.1)

-- the extensions of the first files are the first ones
pub first_are : (mark : ℕ) (xs : List ExtensionType) → AreInOrder (map extension_name xs) → filter (λ x. nat_lt x.file mark) xs ≡ take (length (filter (λ x. nat_lt x.file mark) xs)) xs
first_are mark [] up = refl
first_are mark (x ∷ xs) up = by (nat_lt x.file mark) refl (first_are mark xs up.1) where
  rest : List ExtensionType
  rest = filter (λ x. nat_lt x.file mark) xs

  by : (b : Bool) → nat_lt x.file mark ≡ b → rest ≡ take (length rest) xs → cond (nat_lt x.file mark) (x ∷ rest) rest ≡ take (length (cond (nat_lt x.file mark) (x ∷ rest) rest)) (x ∷ xs)
  by true is inner = rw is (ap (λ ys. x ∷ ys) inner)
  by false is inner =
      let high : mark ≤ x.file = grind (arith, is) in
      let none : rest ≡ [] = filter_from (λ (y : ExtensionType). y.file) mark xs (later mark x.file xs high up.0) in
      rw is (none ∙ ap (λ (ys : List ExtensionType). take (length ys) (x ∷ xs)) (sym none))

pub numbered_cut : (mark : ℕ) (old new : Numbers) (xs : List ExtensionType) → AreInOrder (map extension_name xs)
    → ((k : KeyType) → new k ≡ option_filter (λ i. nat_lt i (length (filter (λ x. nat_lt x.file mark) xs))) (old k)) → AreNumbered old (map key_of xs) → AreNumbered new (map key_of (filter (λ x. nat_lt x.file mark) xs))
numbered_cut mark old new xs up same are =
    let n = length (filter (λ x. nat_lt x.file mark) xs) in
    subst (AreNumbered new) (take-map key_of n xs ∙ ap (map key_of) (sym (first_are mark xs up))) (λ k i. (
      λ e. let low = (low_some n (old k) i).0 (sym (same k) ∙ e) in (taken n (map key_of xs) i k).1 ((are k i).0 low.0) low.1,
      λ e. let at = (taken n (map key_of xs) i k).0 e in same k ∙ (low_some n (old k) i).1 ((are k i).1 at.0) at.1,
    ))

abbrev pub stored_key : StoredExtension → KeyType
stored_key x = (x.extendee, x.field.number)

own_key : (x : StoredExtension) → has_key (stored_key x) x ≡ true
own_key x = grind arith

-- one extension more
numbered_one : (nums : Numbers) (keys : List KeyType) (x : StoredExtension) → nums (stored_key x) ≡ None → AreNumbered nums keys → AreNumbered (with_number nums (length keys) x) (keys ++ stored_key x ∷ [])
numbered_one nums keys x new are = λ k i. rw new (by k i (has_key k x) refl) where
  apart : (k : KeyType) → has_key k x ≡ false → stored_key x ≡ k → ⊥
  apart k other e = let yes : has_key k x ≡ true = sym (ap (λ j. has_key j x) e) ∙ own_key x in absurd (cc)

  by : (k : KeyType) (i : ℕ) (b : Bool) → has_key k x ≡ b
      → (cond (has_key k x) (Some (length keys)) (nums k) ≡ Some i → slice_get (keys ++ stored_key x ∷ []) i ≡ Some k) × (slice_get (keys ++ stored_key x ∷ []) i ≡ Some k → cond (has_key k x) (Some (length keys)) (nums k) ≡ Some i)
  by k i true is =
      let e = same_key k x is in
      rw is (
        λ q. subst (λ j. slice_get (keys ++ stored_key x ∷ []) j ≡ Some k) (same_Some (length keys) i q) (last keys (stored_key x) ∙ ap Some e),
        λ q. ⊎_elim (λ l. absurd (no_some i (sym new ∙ ap nums e ∙ (are k i).1 l))) (λ r. ap Some (sym r.0)) (either keys (stored_key x) i k q),
      )
  by k i false is = rw is (
    λ q. front keys (stored_key x ∷ []) i k ((are k i).0 q),
    λ q. ⊎_elim (λ l. (are k i).1 l) (λ r. absurd (apart k is r.1)) (either keys (stored_key x) i k q),
  )

-- the keys of a pool's extensions, and behind them those of a batch
pub keys_behind : (olds mores news batch : List StoredExtension) → news ≡ olds ++ mores → mores ≡ batch → map key_of (map extension_of news) ≡ map key_of (map extension_of olds) ++ map stored_key batch
keys_behind olds mores news batch a b =
    map_map key_of extension_of news ∙ ap (map stored_key) a ∙ map-append stored_key olds mores ∙ ap (λ l. map stored_key olds ++ l) (ap (map stored_key) b)
    ∙ ap (λ l. l ++ map stored_key batch) (sym (map_map key_of extension_of olds))

module _ (types : LinkedTypes) (at : ℕ → List ℤ → Place) where
  fresh : (known : Bool) (o : Option ℕ) (f : List Fault) (x : Fault) → is_some o ≡ known → cond known (x ∷ f) [] ≡ [] → o ≡ None
  fresh known None f x same none = refl
  fresh known (Some i) f x same none = absurd (let no : (x ∷ f) ≡ [] = ap (λ b. cond b (x ∷ f) []) same ∙ none in cc)

  known_one : (known : KeyType → Bool) (nums : Numbers) (i : ℕ) (x : StoredExtension) → ((k : KeyType) → is_some (nums k) ≡ known k) → nums (stored_key x) ≡ None → (k : KeyType) → is_some (with_number nums i x k) ≡ (known k || has_key k x)
  known_one known nums i x same new k = rw new (by (known k) (has_key k x) (same k)) where
    by : (a b : Bool) → is_some (nums k) ≡ a → is_some (cond b (Some i) (nums k)) ≡ (a || b)
    by true true e = refl
    by true false e = e
    by false true e = refl
    by false false e = e

  -- the extensions of a batch without faults
  pub numbered_more : (known : KeyType → Bool) (nums : Numbers) (keys : List KeyType) (xs : List StoredExtension) → ((k : KeyType) → is_some (nums k) ≡ known k) → extension_faults known (linked_says types) at xs ≡ []
      → AreNumbered nums keys → AreNumbered (with_numbers nums (length keys) xs) (keys ++ map stored_key xs)
  numbered_more known nums keys [] same none are = subst (AreNumbered nums) (sym (append-nil keys)) are
  numbered_more known nums keys (x ∷ xs) same none are =
      let new : nums (stored_key x) ≡ None = fresh (known (stored_key x)) (nums (stored_key x)) [] _ (same (stored_key x)) (none_left _ _ none) in
      let next = with_number nums (length keys) x in
      let more = keys ++ stored_key x ∷ [] in
      let count : length more ≡ length keys + 1 = length-append keys (stored_key x ∷ []) in
      let all = numbered_more (λ k. known k || has_key k x) next more xs (known_one known nums (length keys) x same new) (none_right (double_faults known (linked_says types) at x) _ none) (numbered_one nums keys x new are) in
      subst (λ n. AreNumbered (with_numbers next n xs) (keys ++ map stored_key (x ∷ xs))) count (subst (AreNumbered (with_numbers next (length more) xs)) (append_assoc keys (stored_key x ∷ []) (map stored_key xs)) all)
