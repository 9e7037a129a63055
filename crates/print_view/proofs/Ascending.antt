-- The extensions of a message stand by ascending number, so where no records are told with them they are printed as they stand.
use Rattle.std.proofs.Common.{◌≡◌, ◌≤◌, ℕ, suc, ◌-◌, ◌^◌, ◌==◌, ◌&&◌, Bool, true, false, cond, List, [], ◌∷◌, ◌++◌, map, Option, Some, None, option_map, refl, sym, ap, ◌∙◌, subst, append-nil, arith}
use Rattle.std.proofs.lemmas.Bool.{and_parts}
use Rattle.std.specs.List.{AllByRecursion, cons_option, find, filter_map, flat_map}
use Rattle.std.specs.Option.{option_and_then}
use Rattle.reflect_tables.specs.Types.{PoolType, FieldType, ExtensionType}
use Rattle.reflect_wire.specs.Records.{Payload, varint}
use Rattle.reflect_contents.specs.Walked.{Holding, if_set, set_extension}
use Rattle.reflect_decode.specs.Ordered.{AreNumbered}
use Rattle.reflect_message.specs.Bytes as forms
use Rattle.reflect_message.specs.Held.{extensions_of}
use Rattle.reflect_message.specs.Known.{known_extension}
use Rattle.reflect_message.specs.Names.{DynamicMessage, Value}
use Rattle.print_parts.specs.Entries.{Entry, extension, undeclared, number_of, known_entry, extension_entries, IsByNumber}
use Rattle.protobuf_model.specs.Bytes.{field_numbers}
use Rattle.protobuf_model.proofs.Lists.{all_map}
use Rattle.message_view.proofs.Fields.{known_extension_is}
use Rattle.message_view.proofs.Ordering.{Rise, rises}
use Rattle.print_view.proofs.Counting.{rise_ends}
use Rattle.print_view.proofs.Entries.{passes}
use Rattle.print_view.proofs.Sorting.{Rises, Within, all_found, all_sorted, in_place, of_number, sorted_is}

-- of entries of which none is a record those are all that stand before the records
no_more : (P : Entry → Type 0) → ((r : ℕ × Payload) → P (undeclared r) → ⊥) → (es : List Entry) (us : List (ℕ × Payload)) → AllByRecursion P (es ++ map undeclared us) → AllByRecursion P es × (us ≡ [])
no_more P excludes [] [] h = (tt, refl)
no_more P excludes [] (u ∷ us) h = absurd (excludes u h.0)
no_more P excludes (e ∷ es) us h = let rest = no_more P excludes es us h.1 in ((h.0, rest.0), rest.1)

abbrev Ascends : ℕ → ℕ → List Entry → Type 0
Ascends low high es = Rises number_of es × Within number_of low high es

from_lower : (low l high : ℕ) (es : List Entry) → low ≤ l → Ascends l high es → Ascends low high es
from_lower low l high es le h = (h.0, all_map (λ e. (l ≤ number_of e) × (number_of e ≤ high)) (λ e. (low ≤ number_of e) × (number_of e ≤ high)) es (λ e a. (omega (arith, le, a.0), a.1)) h.1)

one_more : (low high : ℕ) (e : Entry) (es : List Entry) → low ≤ number_of e → number_of e ≤ high → Ascends (suc (number_of e)) high es → Ascends low high (e ∷ es)
one_more low high e es from to h =
    let later = from_lower low (suc (number_of e)) high es (omega (arith, from)) h in (
      (all_map (λ d. (suc (number_of e) ≤ number_of d) × (number_of d ≤ high)) (λ d. number_of e ≤ number_of d) es (λ d a. omega (arith, a.0)) h.1, h.0),
      ((from, to), later.1),
    )

module _ (m : DynamicMessage) where
  abbrev pool : PoolType
  pool = m.descriptor.pool.now

  abbrev i : ℕ
  i = m.descriptor.index

  abbrev known_one : Holding → Option Entry
  known_one h = known_entry m h.0.number h.1

  abbrev extends : ℕ → ExtensionType → Bool
  extends n x = (x.extendee == i) && (x.field.number == n)

  -- an extension more, if it is set and known
  entry_ascends : (e : ℕ × Value) (rest : List Holding) (low high : ℕ) → low ≤ e.0 → e.0 ≤ high → Ascends (suc e.0) high (filter_map known_one rest) → Ascends low high (filter_map known_one (cons_option (set_extension pool i e) rest))
  entry_ascends e rest low high from to h = by (find (extends e.0) pool.extensions) refl where
    skipped : Ascends low high (filter_map known_one rest)
    skipped = from_lower low (suc e.0) high (filter_map known_one rest) (omega (arith, from)) h

    Put : Option Holding → Type 0
    Put o = Ascends low high (filter_map known_one (cons_option o rest))

    by : (x : Option ExtensionType) → find (extends e.0) pool.extensions ≡ x → Put (set_extension pool i e)
    by None is = subst (λ o. Put (option_and_then (if_set pool e.1) (option_map (λ (x : ExtensionType). x.field) o))) (sym is) skipped
    by (Some y) is = subst (λ o. Put (option_and_then (if_set pool e.1) (option_map (λ (x : ExtensionType). x.field) o))) (sym is) (within (forms.is_set pool y.field (forms.form_of e.1))) where
      number : y.field.number ≡ e.0
      number = let two = and_parts (y.extendee == i) (y.field.number == e.0) (passes (extends e.0) pool.extensions y is) in grind (arith, two.1)

      behind : (o : Option FieldType) → known_extension pool i e.0 ≡ o → Ascends low high (cons_option (option_map (λ f. extension pool f e.1) o) (filter_map known_one rest))
      behind None there = skipped
      behind (Some f) there =
          let same : f.number ≡ e.0 = (known_extension_is m.descriptor e.0 f there).3 in
          one_more low high (extension pool f e.1) (filter_map known_one rest) (omega (arith, from, same)) (omega (arith, to, same)) (subst (λ n. Ascends (suc n) high (filter_map known_one rest)) (sym same) h)

      within : (b : Bool) → Put (cond b (Some (y.field, e.1)) None)
      within false = skipped
      within true = subst (λ n. Ascends low high (cons_option (option_map (λ f. extension pool f e.1) (known_extension pool i n)) (filter_map known_one rest))) (sym number) (behind (known_extension pool i e.0) refl)

  ascends : (low high : ℕ) (es : List (ℕ × Value)) → Rise low high es → Ascends low high (filter_map known_one (filter_map (set_extension pool i) es))
  ascends low high [] r = (tt, tt)
  ascends low high (e ∷ es) r =
      let top = rise_ends (suc e.0) high es r.1 in
      entry_ascends e (filter_map (set_extension pool i) es) low high r.0 (omega (arith, top)) (ascends (suc e.0) high es r.1)

  module _ (numbered : AreNumbered (extensions_of m)) (us : List (ℕ × Payload)) (os : List Entry) (sorted : IsByNumber (extension_entries m ++ map undeclared us) os) where
    abbrev found : List Entry
    found = extension_entries m ++ map undeclared us

    abbrev at : ℕ → Entry
    at = λ n. undeclared (n, varint 0)

    -- what holds of each extension and of each record holds of all that is printed
    pub each_other : (P : Entry → Type 0) → AllByRecursion P found → AllByRecursion P os
    each_other P h = all_sorted number_of at (λ n. refl) found os sorted.ascend sorted.same P h

    -- there are no records where none are printed, and of all extensions is so what is so of those that are printed
    pub no_records : (P : Entry → Type 0) → ((r : ℕ × Payload) → P (undeclared r) → ⊥) → AllByRecursion P os → AllByRecursion P (extension_entries m) × (us ≡ [])
    no_records P excludes all = no_more P excludes (extension_entries m) us (all_found number_of at (λ n. refl) found os sorted.ascend sorted.same P all)

    -- so the extensions are printed as they stand
    pub as_they_stand : us ≡ [] → os ≡ extension_entries m
    as_they_stand none =
        let up = ascends 1 (2 ^ 29 - 1) (extensions_of m) (rises (extensions_of m) numbered) in
        let same : found ≡ extension_entries m = ap (λ us. extension_entries m ++ map undeclared us) none ∙ append-nil (extension_entries m) in
        sym (sorted_is number_of at (λ n. refl) found os sorted.ascend sorted.same (subst (Within number_of 1 (2 ^ 29 - 1)) (sym same) up.1))
        ∙ ap (λ es. flat_map (λ n. of_number number_of n es) field_numbers) same
        ∙ in_place number_of (extension_entries m) up.0 up.1
