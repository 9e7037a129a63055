-- The extensions that a walk over a message gives: each is the one of its number.
use Rattle.std.proofs.Common.{◌≡◌, ℕ, ◌==◌, ◌&&◌, Bool, true, false, cond, List, [], ◌∷◌, Option, None, Some, option_map, unwrap_or, refl, sym, ap, ◌∙◌, subst, arith}
use Rattle.std.specs.Prelude.{slice_index_or}
use Rattle.std.proofs.lemmas.Bool.{and_parts}
use Rattle.std.specs.List.{cons_option, find, filter_map}
use Rattle.std.specs.Option.{option_and_then}
use Rattle.reflect_tables.specs.Types.{ExtensionType}
use Rattle.reflect_scalar.proofs.First.{find_place}
use Rattle.reflect_message.specs.Bytes.{form_of, is_set}
use Rattle.reflect_message.specs.Held.{extensions_of}
use Rattle.reflect_message.specs.Known.{if_held}
use Rattle.reflect_message.specs.Names.{DynamicMessage, Value}
use Rattle.reflect_contents.specs.Walked.{Holding, if_set, in_pool, set_extensions}
use Rattle.print_parts.specs.Entries.{extension, extension_entries, given_entry, known_entry, pool_of}

module _ (m : DynamicMessage) where
  abbrev i : ℕ
  i = m.descriptor.index

  abbrev extends : ℕ → ExtensionType → Bool
  extends n x = (x.extendee == i) && (x.field.number == n)

  found_number : (n : ℕ) (x : ExtensionType) → find (extends n) (pool_of m).extensions ≡ Some x → x.field.number ≡ n
  found_number n x is =
      let place = find_place (λ x. extends n x ≡ true) (extends n) (record { says = λ x h. h; passes = λ x h. h }) (pool_of m).extensions x is in
      let same : x ≡ slice_index_or (pool_of m).extensions place.0 x = ap (λ o. unwrap_or o x) (sym is ∙ place.2 x) in
      let two = and_parts (x.extendee == i) (x.field.number == n) (ap (extends n) same ∙ place.1.1.0 x) in
      grind (arith, two.1)

  -- one that is found is known by its own number
  one_known : (n : ℕ) (v : Value) (x : ExtensionType) → find (extends n) (pool_of m).extensions ≡ Some x → known_entry m x.field.number v ≡ given_entry (pool_of m, (x.field, v))
  one_known n v x is =
      ap (λ n. known_entry m n v) (found_number n x is)
      ∙ ap (λ o. option_map (λ f. extension (pool_of m) f v) (option_and_then (λ (x : ExtensionType). if_held (pool_of m) x.field) o)) is

  -- those that are given are known as they are
  abbrev AreKnown : List Holding → Type 0
  AreKnown hs = filter_map given_entry (in_pool (pool_of m) hs) ≡ filter_map (λ h. known_entry m h.0.number h.1) hs

  all_known : (es : List (ℕ × Value)) → AreKnown (set_extensions (pool_of m) i es)
  all_known [] = refl
  all_known (e ∷ es) = by (find (extends e.0) (pool_of m).extensions) refl (all_known es) where
    left : List Holding
    left = set_extensions (pool_of m) i es

    set : Option ExtensionType → Option Holding
    set o = option_and_then (if_set (pool_of m) e.1) (option_map (λ (x : ExtensionType). x.field) o)

    one_more : (x : ExtensionType) → find (extends e.0) (pool_of m).extensions ≡ Some x → AreKnown left → (b : Bool) → AreKnown (cons_option (cond b (Some (x.field, e.1)) None) left)
    one_more x is more false = more
    one_more x is more true =
        ap (cons_option (given_entry (pool_of m, (x.field, e.1)))) more
        ∙ ap (λ o. cons_option o (filter_map (λ h. known_entry m h.0.number h.1) left)) (sym (one_known e.0 e.1 x is))

    by : (o : Option ExtensionType) → find (extends e.0) (pool_of m).extensions ≡ o → AreKnown left → AreKnown (set_extensions (pool_of m) i (e ∷ es))
    by None is more = subst (λ o. AreKnown (cons_option (set o) left)) (sym is) more
    by (Some x) is more = subst (λ o. AreKnown (cons_option (set o) left)) (sym is) (one_more x is more (is_set (pool_of m) x.field (form_of e.1)))

  pub given_all : filter_map given_entry (in_pool (pool_of m) (set_extensions (pool_of m) i (extensions_of m))) ≡ extension_entries m
  given_all = all_known (extensions_of m)
