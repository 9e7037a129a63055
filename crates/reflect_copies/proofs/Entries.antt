-- Maps that are copied, entry by entry.
use Rattle.std.proofs.Common.{◌≡◌, List, [], ◌∷◌, ◌++◌, map, Less, Greater, nat_cmp, refl, sym, ap, ◌∙◌, subst, append_assoc, string_bytes}
use Rattle.std.proofs.lemmas.Cmp.{nat_cmp_total, int_cmp_total, nat_list_cmp_total}
use Rattle.std.proofs.lemmas.Map.Keys.{sorted_head, sorted_tail}
use Rattle.std.specs.BTreeMap.{insert_entry}
use Rattle.std.specs.Cmp.{bool_cmp_total}
use Rattle.std.specs.Cmp.Lexicographic.{slice_cmp}
use Rattle.std.specs.List.{AllByRecursion}
use Rattle.std.specs.List.Sorted.{IsStrictlySortedBy}
use Rattle.std.specs.Map.{keys_of}
use Rattle.std.specs.Ordering.{match_ordering, ordering_reverse}
use Rattle.reflect_scalar.specs.Keys.{key_view}
use Rattle.reflect_scalar.specs.declared.map_key.MapKey.{MapKey}
use Rattle.reflect_scalar.specs.declared.map_key.MapKey.TheVariants as keys
use Rattle.reflect_message.specs.Maps.{key_order}
use Rattle.reflect_copies.specs.Maps.{PutsCopy}
use Rattle.reflect_copies.specs.Trees.{entry_tree, tree}
use Rattle.reflect_message.specs.Names.{Value}

abbrev pub Entry : Type 0
Entry = MapKey × Value

-- keys that are seen alike are in one order with others
alike_first : (a b x : MapKey) → key_view a ≡ key_view b → key_order a x ≡ key_order b x
alike_first (keys.Bool a) (keys.Bool b) x e =
    let same : a ≡ b = cc e in
    ap (λ n. key_order (keys.Bool n) x) same
alike_first (keys.I32 a) (keys.I32 b) x e =
    let same : a ≡ b = cc e in
    ap (λ n. key_order (keys.I32 n) x) same
alike_first (keys.I64 a) (keys.I64 b) x e =
    let same : a ≡ b = cc e in
    ap (λ n. key_order (keys.I64 n) x) same
alike_first (keys.U32 a) (keys.U32 b) x e =
    let same : a ≡ b = cc e in
    ap (λ n. key_order (keys.U32 n) x) same
alike_first (keys.U64 a) (keys.U64 b) x e =
    let same : a ≡ b = cc e in
    ap (λ n. key_order (keys.U64 n) x) same
alike_first (keys.String a) (keys.String b) x e = by x where
  same : string_bytes a ≡ string_bytes b
  same = cc e

  by : (x : MapKey) → key_order (keys.String a) x ≡ key_order (keys.String b) x
  by (keys.String t) = ap (λ s. slice_cmp nat_cmp s (string_bytes t)) same
  by (keys.Bool n) = refl
  by (keys.I32 n) = refl
  by (keys.I64 n) = refl
  by (keys.U32 n) = refl
  by (keys.U64 n) = refl
alike_first a b x e = absurd (cc e)

-- and the other way round they stand so too
turned : (a b : MapKey) → key_order a b ≡ ordering_reverse (key_order b a)
turned (keys.Bool a) (keys.Bool b) = bool_cmp_total.antisymm a b
turned (keys.I32 a) (keys.I32 b) = int_cmp_total.antisymm a b
turned (keys.I64 a) (keys.I64 b) = int_cmp_total.antisymm a b
turned (keys.U32 a) (keys.U32 b) = nat_cmp_total.antisymm a b
turned (keys.U64 a) (keys.U64 b) = nat_cmp_total.antisymm a b
turned (keys.String a) (keys.String b) =
    nat_list_cmp_total.antisymm (string_bytes a) (string_bytes b)
turned a b = refl

alike_second : (a b x : MapKey) → key_view a ≡ key_view b → key_order x a ≡ key_order x b
alike_second a b x e = turned x a ∙ ap ordering_reverse (alike_first a b x e) ∙ sym (turned x b)

-- keys that ascend are below the one behind them
below : (e : Entry) (done left : List Entry)
    → IsStrictlySortedBy key_order (keys_of (done ++ e ∷ left))
    → AllByRecursion (λ (d : Entry). key_order e.0 d.0 ≡ Greater) done
below e [] left s = tt
below e (d ∷ done) left s =
    let rest = keys_of (done ++ e ∷ left) in (
      above (first done (sorted_head key_order d.0 rest s)),
      below e done left (sorted_tail key_order d.0 rest s),
    ) where
      above : key_order d.0 e.0 ≡ Less → key_order e.0 d.0 ≡ Greater
      above less = turned e.0 d.0 ∙ ap ordering_reverse less

      first : (es : List Entry) → AllByRecursion (λ k. key_order d.0 k ≡ Less) (keys_of (es ++ e ∷ left))
          → key_order d.0 e.0 ≡ Less
      first [] h = h.0
      first (x ∷ es) h = first es h.1

module _ (k : MapKey) (v : Value) (e : Entry)
    (key : key_view k ≡ key_view e.0) (value : tree v ≡ tree e.1) where
  one : entry_tree (k, v) ≡ entry_tree e
  one = ap (λ s. (s, tree v)) key ∙ ap (λ t. (key_view e.0, t)) value

  -- a copy of such an entry goes behind the copies of those before it
  last : (copy done : List Entry) → map entry_tree copy ≡ map entry_tree done
      → AllByRecursion (λ (d : Entry). key_order e.0 d.0 ≡ Greater) done
      → map entry_tree (insert_entry key_order copy k v) ≡ map entry_tree (done ++ e ∷ [])
  last [] [] same all = ap (λ x. x ∷ []) one
  last [] (d ∷ done) same all = absurd (cc same)
  last (c ∷ copy) [] same all = absurd (cc same)
  last (c ∷ copy) (d ∷ done) same all =
      let here : entry_tree c ≡ entry_tree d = cc same in
      let rest : map entry_tree copy ≡ map entry_tree done = cc same in
      let seen : key_view c.0 ≡ key_view d.0 = ap (λ x. x.0) here in
      let more : key_order k c.0 ≡ Greater =
      alike_first k e.0 c.0 key ∙ alike_second c.0 d.0 e.0 seen ∙ all.0 in
      ap (λ o. map entry_tree (match_ordering o ((k, v) ∷ c ∷ copy) ((c.0, v) ∷ copy)
      (c ∷ insert_entry key_order copy k v))) more
      ∙ ap (λ x. x ∷ map entry_tree (insert_entry key_order copy k v)) here
      ∙ ap (λ l. entry_tree d ∷ l) (last copy done rest all.1)

-- of all entries some are copied, and the others are left
abbrev pub Copied : List Entry → List Entry → List Entry → Type 0
Copied all left copy =
    (done : List Entry) × (all ≡ done ++ left) × (map entry_tree copy ≡ map entry_tree done)

pub copied_next : (all left copy new : List Entry) (e : Entry) (v : Value)
    → IsStrictlySortedBy key_order (keys_of all)
    → tree v ≡ tree e.1 → PutsCopy e.0 v copy new → Copied all (e ∷ left) copy → Copied all left new
copied_next all left copy new e v sorted same (k, key, put) (done, whole, seen) =
    let ascend = subst (λ es. IsStrictlySortedBy key_order (keys_of es)) whole sorted in (
      done ++ e ∷ [],
      whole ∙ sym (append_assoc done (e ∷ []) left),
      ap (map entry_tree) put ∙ last k v e key same copy done seen (below e done left ascend),
    )
