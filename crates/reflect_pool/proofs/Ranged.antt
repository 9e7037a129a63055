-- The extensions of a message, as a range of a pool's messages and numbers.
use Rattle.std.proofs.Common.{◌≡◌, ℕ, zero, suc, ◌<◌, ◌+◌, List, [], ◌∷◌, Bool, true, false, cond, Option, Some, None, All, Contains, IfSome, IsSome, MatchOption, map, length, slice_get, get_or, ap, sym, subst, ◌∙◌, arith, refl}
use Rattle.std.proofs.Math.ListN.{length-map}
use Rattle.std.proofs.lemmas.List as lists
use Rattle.std.proofs.lemmas.List.{get_or_default}
use Rattle.std.proofs.lemmas.List.Kept.{IsStrictlySortedBy-filter}
use Rattle.std.proofs.lemmas.List.Elements.{All-tail, Contains-get_or}
use Rattle.std.proofs.lemmas.Map.Entries.{btree_map_get_place}
use Rattle.std.proofs.lemmas.Map.Lookups.{CmpEqualImpliesEq}
use Rattle.std.proofs.lemmas.Map.Views.{IfSome-get}
use Rattle.std.specs.BTreeMap.{BTreeMap, IsOrdered}
use Rattle.std.specs.BTreeMap.Range.{range_contains}
use Rattle.std.specs.List.{AllByRecursion, filter}
use Rattle.std.specs.List.Sorted.{IsStrictlySortedBy}
use Rattle.std.specs.Map.{keys_of}
use Rattle.std.specs.Map.Iter.{TakesFirst}
use Rattle.std.specs.Ordering.{nat_cmp, ordering_then}
use Rattle.std.specs.declared.cmp.Ordering.{Ordering}
use Rattle.std.specs.declared.ops.Bound.TheVariants.{Included, Excluded}
use Rattle.std.specs.declared.cmp.Ordering.TheVariants.{Less, Equal}
use Rattle.reflect_tables.specs.Types.{PoolType, ExtensionType, extension_at, no_extension}
use Rattle.reflect_tables.specs.ExtensionNumbers.{KeyType, key_cmp, numbers_of}
use Rattle.reflect_pool.specs.ExtensionsLeft.{AreExtensions, extension_place}
use Rattle.reflect_pool.specs.Linked.{AreNumbered, key_of}
use Rattle.reflect_pool.specs.declared.extension.ExtensionDescriptor.{ExtensionDescriptor}
use Rattle.reflect_pool.proofs.Numbered.{key_total, here, numbered_at}
use Rattle.reflect_pool.proofs.Places.{at_place}

abbrev pub Entry : Type 0
Entry = KeyType × ℕ

exact : CmpEqualImpliesEq key_cmp
exact a b e = λ i. (first a.0 b.0 (nat_cmp a.1 b.1) e i, second a.0 b.0 a.1 b.1 e i) where
  first : (x y : ℕ) (o : Ordering) → ordering_then (nat_cmp x y) o ≡ Equal → x ≡ y
  first x y o e = grind (arith, e)

  second : (x y u v : ℕ) → ordering_then (nat_cmp x y) (nat_cmp u v) ≡ Equal → u ≡ v
  second x y u v e = grind (arith, e)

next_number : (a b : KeyType) → a.0 ≡ b.0 → key_cmp a b ≡ Less → nat_cmp a.1 b.1 ≡ Less
next_number a b same e =
    let tied : nat_cmp a.0 b.0 ≡ Equal = grind (arith, same) in
    sym (ap (λ o. ordering_then o (nat_cmp a.1 b.1)) tied) ∙ e

all_from : {X : Type 0} (P : X → Type 0) (xs : List X) → ((i : ℕ) (x : X) → slice_get xs i ≡ Some x → P x) → AllByRecursion P xs
all_from P [] h = tt
all_from P (x ∷ xs) h = (h zero x refl, all_from P xs (λ i y e. h (suc i) y e))

all_places : {X : Type 0} (P : X → Type 0) (xs : List X) → AllByRecursion P xs → All P xs
all_places P xs h = λ k d lt. at_place P xs k d h lt

all_mapped : {X Y : Type 0} (f : X → Y) (P : Y → Type 0) (xs : List X) → AllByRecursion (λ x. P (f x)) xs → AllByRecursion P (map f xs)
all_mapped f P [] h = tt
all_mapped f P (x ∷ xs) h = (h.0, all_mapped f P xs h.1)

-- what is in a list and passes is in what is left
kept : {X : Type 0} (test : X → Bool) (xs : List X) (x : X) (i : ℕ) → i < length xs → get_or xs i x ≡ x → test x ≡ true → Contains (filter test xs) x
kept test [] x i lt same passes = absurd (omega (arith, lt))
kept test (y ∷ ys) x zero lt same passes =
    let here : test y ≡ true = ap test same ∙ passes in
    rw here (0, omega arith, same)
kept test (y ∷ ys) x (suc i) lt same passes = by (test y) (kept test ys x i (omega (arith, lt)) same passes) where
  by : (b : Bool) → Contains (filter test ys) x → Contains (cond b (y ∷ filter test ys) (filter test ys)) x
  by true h = let l = h.1 in (suc h.0, omega (arith, l), h.2)
  by false h = h

-- the keys of what is left of entries
kept_keys : (test : KeyType → Bool) (es : List Entry) → keys_of (filter (λ e. test e.0) es) ≡ filter test (keys_of es)
kept_keys test [] = refl
kept_keys test (e ∷ es) = by (test e.0) (kept_keys test es) where
  by : (b : Bool) → keys_of (filter (λ e. test e.0) es) ≡ filter test (keys_of es)
      → keys_of (cond b (e ∷ filter (λ e. test e.0) es) (filter (λ e. test e.0) es)) ≡ cond b (e.0 ∷ filter test (keys_of es)) (filter test (keys_of es))
  by true h = ap (λ ks. e.0 ∷ ks) h
  by false h = h

abbrev pub in_message : ℕ → KeyType → Bool
in_message m q = range_contains key_cmp (Included (m, 0)) (Excluded (m + 1, 0)) q

of_message : (m : ℕ) (q : KeyType) → in_message m q ≡ true → q.0 ≡ m
of_message m q e = grind (arith, e)

is_in : (m n : ℕ) → in_message m (m, n) ≡ true
is_in m n = grind arith

module _ (p : PoolType) (m : ℕ) (n : BTreeMap KeyType ℕ) (up : IsOrdered key_cmp n) (are : AreNumbered (numbers_of n) (map key_of p.extensions)) where
  abbrev type_of : Entry → ExtensionType
  type_of e = extension_at p e.1

  abbrev found : List Entry
  found = filter (λ e. in_message m e.0) n.entries

  abbrev Right : Entry → Type 0
  Right e = (e.1 < length p.extensions) × (key_of (type_of e) ≡ e.0)

  abbrev Chosen : Entry → Type 0
  Chosen e = Right e × (e.0.0 ≡ m)

  right : AllByRecursion Right n.entries
  right = all_from Right n.entries (λ i e at. let h = numbered_at (numbers_of n) p.extensions are e.0 e.1 (btree_map_get_place key_total n i e.0 e.1 up at) in (h.0, h.1 no_extension))

  choose : (es : List Entry) → AllByRecursion Right es → AllByRecursion Chosen (filter (λ e. in_message m e.0) es)
  choose [] h = tt
  choose (e ∷ es) h = by (in_message m e.0) refl (choose es h.1) where
    by : (b : Bool) → in_message m e.0 ≡ b → AllByRecursion Chosen (filter (λ e. in_message m e.0) es) → AllByRecursion Chosen (cond b (e ∷ filter (λ e. in_message m e.0) es) (filter (λ e. in_message m e.0) es))
    by true is rest = ((h.0, of_message m e.0 is), rest)
    by false is rest = rest

  chosen : AllByRecursion Chosen found
  chosen = choose n.entries right

  numbers_above : (e : Entry) (es : List Entry) → Chosen e → AllByRecursion Chosen es → AllByRecursion (λ k. key_cmp e.0 k ≡ Less) (keys_of es)
      → AllByRecursion (λ i. nat_cmp (type_of e).field.number i ≡ Less) (map (λ x. x.field.number) (map type_of es))
  numbers_above e [] c h up = tt
  numbers_above e (f ∷ es) c h up =
      let less = next_number e.0 f.0 (c.1 ∙ sym h.0.1) up.0 in
      let a : (type_of e).field.number ≡ e.0.1 = ap (λ (k : KeyType). k.1) c.0.1 in
      let b : (type_of f).field.number ≡ f.0.1 = ap (λ (k : KeyType). k.1) h.0.0.1 in
      (ap (λ i. nat_cmp i (type_of f).field.number) a ∙ ap (λ i. nat_cmp e.0.1 i) b ∙ less, numbers_above e es c h.1 up.1)

  ascending : (es : List Entry) → AllByRecursion Chosen es → IsStrictlySortedBy key_cmp (keys_of es) → IsStrictlySortedBy nat_cmp (map (λ x. x.field.number) (map type_of es))
  unfolding IsStrictlySortedBy
  ascending [] h up = tt
  ascending (e ∷ es) h up = (numbers_above e es h.0 h.1 up.0, ascending es h.1 up.1)

  pub inside : All (λ e. e.1 < length p.extensions) found
  inside = λ k d lt. (at_place Chosen found k d chosen lt).0.0

  abbrev Extends : ExtensionType → Type 0
  Extends x = Contains p.extensions x × (x.extendee ≡ m)

  extends : (es : List Entry) → AllByRecursion Chosen es → AllByRecursion (λ e. Extends (type_of e)) es
  extends [] h = tt
  extends (e ∷ es) h = ((Contains-get_or p.extensions e.1 no_extension h.0.0.0, ap (λ (k : KeyType). k.0) h.0.0.1 ∙ h.0.1), extends es h.1)

  pub extensions_of : AreExtensions p m (map type_of found)
  extensions_of = record {
    ascend = ascending found chosen (subst (IsStrictlySortedBy key_cmp) (sym (kept_keys (in_message m) n.entries)) (IsStrictlySortedBy-filter key_cmp (in_message m) (keys_of n.entries) up));
    extend = all_places Extends (map type_of found) (all_mapped type_of Extends found (extends found chosen));
    complete = λ i d lt same.
        let x = get_or p.extensions i d in
        let is : numbers_of n (key_of x) ≡ Some i = here (numbers_of n) p.extensions are (key_of x) i d lt refl in
        let there = subst (λ o. IfSome o (λ v. Contains n.entries (key_of x, v))) is (IfSome-get key_total exact n (key_of x)) in
        let passes : in_message m (key_of x) ≡ true = subst (λ j. in_message j (key_of x) ≡ true) same (is_in x.extendee x.field.number) in
        let left = kept (λ (e : Entry). in_message m e.0) n.entries (key_of x, i) there.0 there.1 there.2 passes in
        let y : type_of (key_of x, i) ≡ x = get_or_default p.extensions i no_extension d lt in
        let more = left.1 in
        let long : length (map type_of found) ≡ length found = length-map found type_of in
        subst (Contains (map type_of found)) y (left.0, omega (arith, more, long), lists.get_or-map type_of found left.0 (key_of x, i) (type_of (key_of x, i)) more ∙ ap type_of left.2);
  }

-- what holds of all that is left holds behind the first
pub left_all : {A X : Type 0} (shows : A → X) (P : X → Type 0) (s t : List X) (r : Option A) → TakesFirst shows s r t → All P s → All P t
left_all shows P s t None e h = subst (λ l. All P l) (sym e.1) (λ k d lt. absurd (omega (arith, lt)))
left_all shows P s t (Some x) e h = All-tail P (shows x) t (subst (λ l. All P l) e h)

-- the places that entries of a pool name
abbrev pub places_of : PoolType → List Entry → List (PoolType × ℕ)
places_of p es = map (λ (e : Entry). (p, e.1)) es

pub gives_first : (p : PoolType) (key : KeyType) (place : ℕ) (es left : List Entry) (r : Option ExtensionDescriptor) → es ≡ (key, place) ∷ left → All (λ (e : Entry). e.1 < length p.extensions) es
    → (place < length p.extensions → IsSome r) → IfSome r (λ x. x.pool.now ≡ p) → IfSome r (λ x. x.index ≡ place)
    → MatchOption r ((places_of p es ≡ []) × (places_of p left ≡ [])) (λ x. places_of p es ≡ extension_place x ∷ places_of p left)
gives_first p key place es left None e all there pool at = let some = there (subst (λ l. All (λ (e : Entry). e.1 < length p.extensions) l) e all 0 (key, place) (omega arith)) in absurd (cc)
gives_first p key place es left (Some x) e all there pool at =
    let same : extension_place x ≡ (p, place) = ap (λ q. (q, x.index)) pool ∙ ap (λ k. (p, k)) at in
    ap (places_of p) e ∙ ap (λ y. y ∷ places_of p left) (sym same)
