-- What a table holds where only values that pass a test are left.
use Rattle.std.specs.declared.alloc.Global.{Global}
use Rattle.std.proofs.Common.{◌≡◌, ℕ, List, [], ◌∷◌, map, Bool, true, false, cond, Option, Some, None, is_some, refl, sym, ap, subst, ◌∙◌, string_bytes, string_cmp, String}
use Rattle.std.specs.Map.{lookup, keys_of}
use Rattle.std.specs.List.{AllByRecursion, filter}
use Rattle.std.specs.List.Sorted.{IsStrictlySortedBy}
use Rattle.std.specs.Ordering.{is_eq, nat_cmp, eq_by_cmp}
use Rattle.std.specs.declared.cmp.Ordering.TheVariants.{Less}
use Rattle.std.specs.BTreeMap.{BTreeMap, keys, get, get_by_text, IsOrdered}
use Rattle.std.specs.Cmp.{eq_by_cmp_equiv}
use Rattle.std.specs.Cmp.Lexicographic.{slice_cmp}
use Rattle.std.specs.Str.{bytes_eq}
use Rattle.std.proofs.lemmas.Cmp.{nat_list_cmp_total, nat_cmp_total, on_total}
use Rattle.std.proofs.lemmas.Map.Entries.{lookup-filter-values, option_filter}
use Rattle.std.proofs.lemmas.Map.Keys.{IsDistinct-from_sorted}
use Rattle.name_table.specs.declared.key.NameHash.{NameHash}
use Rattle.name_table.specs.Slots.{by_bits, key_of, in_slots, in_both, AreApart}
use Rattle.name_table.specs.Known.{kept}
use Rattle.name_table.specs.declared.slot.Slot.{Slot}
use Rattle.name_table.proofs.Puts.{under}

same_kept : {V : Type 0} (test : V → Bool) (o : Option V) → option_filter test o ≡ kept test o
same_kept test None = refl
same_kept test (Some v) = refl

above : (x : String Global) (ks : List (String Global)) → AllByRecursion (λ y. string_cmp x y ≡ Less) ks → AllByRecursion (λ t. slice_cmp nat_cmp (string_bytes x) t ≡ Less) (map string_bytes ks)
above x [] all = tt
above x (k ∷ ks) all = (all.0, above x ks all.1)

texts_sorted : (ks : List (String Global)) → IsStrictlySortedBy string_cmp ks → IsStrictlySortedBy (slice_cmp nat_cmp) (map string_bytes ks)
unfolding IsStrictlySortedBy
texts_sorted [] s = tt
texts_sorted (k ∷ ks) s = (above k ks s.0, texts_sorted ks s.1)

module _ {V : Type 0} where
  under_kept : (test : V → Bool) (t : List ℕ) (o : Option (Slot V)) → under t (option_filter (λ s. test s.value) o) ≡ kept test (under t o)
  under_kept test t None = refl
  under_kept test t (Some s) = by (test s.value) (bytes_eq (string_bytes s.name) t) refl refl where
    by : (a b : Bool) → test s.value ≡ a → bytes_eq (string_bytes s.name) t ≡ b → under t (cond (test s.value) (Some s) None) ≡ kept test (cond (bytes_eq (string_bytes s.name) t) (Some s.value) None)
    by true true kept_is at = rw (kept_is, at, kept_is) refl
    by true false kept_is at = rw (kept_is, at) refl
    by false true kept_is at = rw (kept_is, at, kept_is) refl
    by false false kept_is at = rw (kept_is, at) refl

  -- what stands under the hashes
  pub slots_kept : (test : V → Bool) (m n : BTreeMap NameHash (Slot V)) → IsOrdered by_bits m → n.entries ≡ filter (λ e. test e.1.value) m.entries
      → (t : List ℕ) → in_slots n t ≡ kept test (in_slots m t)
  slots_kept test m n up e t =
      let distinct = IsDistinct-from_sorted by_bits (keys_of m.entries) up in
      ap (λ es. under t (lookup (eq_by_cmp by_bits (key_of t)) es)) e
      ∙ ap (under t) (lookup-filter-values (eq_by_cmp_equiv (on_total (λ h. h.bits) nat_cmp_total)) (λ s. test s.value) (key_of t) m.entries distinct)
      ∙ under_kept test t (get by_bits m (key_of t))

  abbrev text_entry : String Global × V → List ℕ × V
  text_entry e = (string_bytes e.0, e.1)

  keys_text : (es : List (String Global × V)) → keys_of (map text_entry es) ≡ map string_bytes (keys_of es)
  keys_text [] = refl
  keys_text (e ∷ es) = ap (λ ks. string_bytes e.0 ∷ ks) (keys_text es)

  at_text : (t : List ℕ) (es : List (String Global × V)) → lookup (λ k. is_eq (slice_cmp nat_cmp t (string_bytes k))) es ≡ lookup (eq_by_cmp (slice_cmp nat_cmp) t) (map text_entry es)
  at_text t [] = refl
  at_text t (e ∷ es) = ap (λ o. cond (is_eq (slice_cmp nat_cmp t (string_bytes e.0))) (Some e.1) o) (at_text t es)

  text_filter : (test : V → Bool) (es : List (String Global × V)) → map text_entry (filter (λ e. test e.1) es) ≡ filter (λ e. test e.1) (map text_entry es)
  text_filter test [] = refl
  text_filter test (e ∷ es) = by (test e.1) refl (text_filter test es) where
    by : (b : Bool) → test e.1 ≡ b → map text_entry (filter (λ e. test e.1) es) ≡ filter (λ e. test e.1) (map text_entry es) → map text_entry (cond (test e.1) (e ∷ filter (λ e. test e.1) es) (filter (λ e. test e.1) es)) ≡ cond (test e.1) (text_entry e ∷ filter (λ e. test e.1) (map text_entry es)) (filter (λ e. test e.1) (map text_entry es))
    by true is inner = rw is (ap (λ xs. text_entry e ∷ xs) inner)
    by false is inner = rw is inner

  -- what texts stand for where only values that pass are left
  pub text_kept : (test : V → Bool) (m n : BTreeMap (String Global) V) → IsOrdered string_cmp m → n.entries ≡ filter (λ e. test e.1) m.entries
      → (t : List ℕ) → get_by_text n t ≡ option_filter test (get_by_text m t)
  text_kept test m n up e t =
      let es = m.entries in
      let sorted = subst (IsStrictlySortedBy (slice_cmp nat_cmp)) (sym (keys_text es)) (texts_sorted (keys m) up) in
      let distinct = IsDistinct-from_sorted (slice_cmp nat_cmp) (keys_of (map text_entry es)) sorted in
      at_text t n.entries
      ∙ ap (λ l. lookup (eq_by_cmp (slice_cmp nat_cmp) t) (map text_entry l)) e
      ∙ ap (lookup (eq_by_cmp (slice_cmp nat_cmp) t)) (text_filter test es)
      ∙ lookup-filter-values (eq_by_cmp_equiv nat_list_cmp_total) test t (map text_entry es) distinct
      ∙ ap (option_filter test) (sym (at_text t es))

  -- the names whose hash another name has
  pub texts_kept : (test : V → Bool) (m n : BTreeMap (String Global) V) → IsOrdered string_cmp m → n.entries ≡ filter (λ e. test e.1) m.entries
      → (t : List ℕ) → get_by_text n t ≡ kept test (get_by_text m t)
  texts_kept test m n up e t = text_kept test m n up e t ∙ same_kept test (get_by_text m t)

  abbrev either : Option V → Option V → Option V
  either a b = elim a [ None ↦ b | Some v ↦ Some v ]

  either_kept : (test : V → Bool) (a b c d : Option V) → c ≡ kept test a → d ≡ kept test b → (is_some a ≡ true → is_some b ≡ false) → either c d ≡ kept test (either a b)
  either_kept test None b c d first second apart = rw first second
  either_kept test (Some v) (Some w) c d first second apart = let no : is_some (Some w) ≡ false = apart refl in absurd (cc)
  either_kept test (Some v) None c d first second apart = by (test v) refl where
    by : (b : Bool) → test v ≡ b → either c d ≡ cond (test v) (Some v) None
    by true is = rw (first, is) refl
    by false is = rw (first, is) second

  -- the whole
  pub both_kept : (test : V → Bool) (m n : BTreeMap NameHash (Slot V)) (p q : BTreeMap (String Global) V) → AreApart m p → ((t : List ℕ) → in_slots n t ≡ kept test (in_slots m t)) → ((t : List ℕ) → get_by_text q t ≡ kept test (get_by_text p t))
      → (t : List ℕ) → in_both n q t ≡ kept test (in_both m p t)
  both_kept test m n p q apart first second t = either_kept test (in_slots m t) (get_by_text p t) (in_slots n t) (get_by_text q t) (first t) (second t) (apart t)

  still_apart : (test : V → Bool) (a b c d : Option V) → c ≡ kept test a → d ≡ kept test b → (is_some a ≡ true → is_some b ≡ false) → is_some c ≡ true → is_some d ≡ false
  still_apart test None b c d first second apart some = absurd (cc)
  still_apart test (Some v) (Some w) c d first second apart some = let no : is_some (Some w) ≡ false = apart refl in absurd (cc)
  still_apart test (Some v) None c d first second apart some = ap is_some second

  pub apart_kept : (test : V → Bool) (m n : BTreeMap NameHash (Slot V)) (p q : BTreeMap (String Global) V) → AreApart m p → ((t : List ℕ) → in_slots n t ≡ kept test (in_slots m t)) → ((t : List ℕ) → get_by_text q t ≡ kept test (get_by_text p t))
      → AreApart n q
  apart_kept test m n p q apart first second t some = still_apart test (in_slots m t) (get_by_text p t) (in_slots n t) (get_by_text q t) (first t) (second t) (apart t) some
