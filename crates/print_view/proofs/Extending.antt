-- Which extensions of a message are printed: those that messages hold, with what stands under their numbers.
use Rattle.std.proofs.Common.{◌≡◌, ◌⊎◌, inl, inr, ◌-◌, ◌^◌, ℕ, ◌==◌, ◌&&◌, Bool, true, false, cond, List, [], ◌∷◌, Option, Some, None, option_map, unwrap_or, refl, sym, ap, ◌∙◌, subst, arith}
use Rattle.std.specs.Prelude.{slice_index_or}
use Rattle.std.proofs.lemmas.Bool.{and_parts}
use Rattle.std.specs.List.{AllByRecursion, cons_option, find, filter_map}
use Rattle.std.specs.Option.{option_and_then}
use Rattle.reflect_tables.specs.Types.{PoolType, FieldType, ExtensionType}
use Rattle.reflect_pool.specs.Shapes.{holds_list, holds_map}
use Rattle.reflect_scalar.specs.FieldTypes.{extension_type}
use Rattle.reflect_scalar.proofs.First.{find_place}
use Rattle.reflect_entries.specs.Entries.{value_at}
use Rattle.reflect_contents.specs.Walked.{Holding, if_set, set_extension}
use Rattle.reflect_message.specs.Bytes as forms
use Rattle.reflect_message.specs.Contents.{content_of}
use Rattle.reflect_message.specs.Held.{extensions_of}
use Rattle.reflect_message.specs.Known.{holds_floats, known_field, known_extension}
use Rattle.reflect_message.specs.Names.{DynamicMessage, Value}
use Rattle.print_parts.specs.Entries.{Entry, extension, known_entry, extension_entries}
use Rattle.message_view.specs.Shaped.{FitsAs, IsShaped, Shaped}
use Rattle.message_view.proofs.Accepting.{extension_known_whole}
use Rattle.message_view.proofs.Fields.{known, known_extension_is}
use Rattle.message_view.proofs.Ordering.{found_each, rises}
use Rattle.print_view.proofs.Chosen.{Found}

module _ (m : DynamicMessage) (levels : ℕ) (shaped : IsShaped (Shaped levels) m.descriptor (content_of m)) where
  abbrev pool : PoolType
  pool = m.descriptor.pool.now

  abbrev i : ℕ
  i = m.descriptor.index

  pub found_extensions : Found (extensions_of m) (extensions_of m)
  found_extensions = found_each 1 (2 ^ 29 - 1) (extensions_of m) (rises (extensions_of m) shaped.ordered.extensions)

  -- no extension stands beside a field
  pub no_field_too : (n : ℕ) (v : Value) (f : FieldType) → value_at (extensions_of m) n ≡ Some v → known_field pool i n ≡ Some f → ⊥
  no_field_too n v f at is =
      let g = known m.descriptor n f is in
      cc (sym (ap (λ (t : FieldType). value_at (extensions_of m) t.number) g.2 ∙ ap (value_at (extensions_of m)) g.3 ∙ at) ∙ shaped.apart g.0 g.1)

  -- what it holds suits it
  pub extension_fits : (n : ℕ) (v : Value) (f : FieldType) → value_at (extensions_of m) n ≡ Some v → known_field pool i n ≡ None → known_extension pool i n ≡ Some f
      → (holds_floats pool f ≡ false) × FitsAs (Shaped levels) pool f (holds_map pool f) (holds_list pool f) v
  extension_fits n v f at none is =
      let x = known_extension_is m.descriptor n f is in
      let number : (extension_type x.0).number ≡ n = ap (λ (t : FieldType). t.number) x.2 ∙ x.3 in (
        extension_known_whole m.descriptor n f is,
        subst (λ t. FitsAs (Shaped levels) pool t (holds_map pool t) (holds_list pool t) v) x.2
            (shaped.extensions x.0 x.1 (ap (known_field pool i) number ∙ none) v (ap (value_at (extensions_of m)) number ∙ at)),
      )

  -- ---- one extension after the other

  abbrev others : List (ℕ × Value) → List Entry
  others es = filter_map (λ (h : Holding). known_entry m h.0.number h.1) (filter_map (set_extension pool i) es)

  abbrev extends : ℕ → ExtensionType → Bool
  extends n x = (x.extendee == i) && (x.field.number == n)

  -- an entry more is that of the extension of its number, if there is one more
  abbrev OneExtension : ℕ × Value → List (ℕ × Value) → Type 0
  OneExtension e es = (others (e ∷ es) ≡ others es)
      ⊎ ((f : FieldType) × (known_extension pool i e.0 ≡ Some f) × (others (e ∷ es) ≡ extension pool f e.1 ∷ others es))

  one_extension : (e : ℕ × Value) (es : List (ℕ × Value)) → OneExtension e es
  one_extension e es = by (find (extends e.0) pool.extensions) refl where
    put : Option Holding → List Entry
    put o = filter_map (λ (h : Holding). known_entry m h.0.number h.1) (cons_option o (filter_map (set_extension pool i) es))

    opened : (x : Option ExtensionType) → find (extends e.0) pool.extensions ≡ x → others (e ∷ es) ≡ put (option_and_then (if_set pool e.1) (option_map (λ (x : ExtensionType). x.field) x))
    opened x is = ap (λ o. put (option_and_then (if_set pool e.1) (option_map (λ (x : ExtensionType). x.field) o))) is

    by : (x : Option ExtensionType) → find (extends e.0) pool.extensions ≡ x → OneExtension e es
    by None is = inl (opened None is)
    by (Some y) is = within (forms.is_set pool y.field (forms.form_of e.1)) (opened (Some y) is) where
      number : y.field.number ≡ e.0
      number =
          let place = find_place (λ x. extends e.0 x ≡ true) (extends e.0) (record { says = λ x h. h; passes = λ x h. h }) pool.extensions y is in
          let same : y ≡ slice_index_or pool.extensions place.0 y = ap (λ o. unwrap_or o y) (sym is ∙ place.2 y) in
          let two = and_parts (y.extendee == i) (y.field.number == e.0) (ap (extends e.0) same ∙ place.1.1.0 y) in
          grind (arith, two.1)

      told : (o : Option FieldType) → known_extension pool i e.0 ≡ o → others (e ∷ es) ≡ cons_option (option_map (λ f. extension pool f e.1) o) (others es) → OneExtension e es
      told None there is = inl is
      told (Some f) there is = inr (f, there, is)

      within : (b : Bool) → others (e ∷ es) ≡ put (cond b (Some (y.field, e.1)) None) → OneExtension e es
      within false is = inl is
      within true is =
          told (known_extension pool i e.0) refl
          (is ∙ ap (λ n. cons_option (option_map (λ f. extension pool f e.1) (known_extension pool i n)) (others es)) number)

  abbrev EachExtension : (Entry → Type 0) → Type 0
  EachExtension P = (n : ℕ) (f : FieldType) (v : Value) → known_field pool i n ≡ None → known_extension pool i n ≡ Some f → value_at (extensions_of m) n ≡ Some v → P (extension pool f v)

  all_others : (P : Entry → Type 0) → EachExtension P → (es : List (ℕ × Value)) → Found (extensions_of m) es → AllByRecursion P (others es)
  all_others P each [] all = tt
  all_others P each (e ∷ es) all = elim (one_extension e es) [
    | inl none ↦ subst (AllByRecursion P) (sym none) (all_others P each es all.1)
    | inr (f, is, more) ↦ subst (AllByRecursion P) (sym more) (each e.0 f e.1 (no_field (known_field pool i e.0) refl) is all.0, all_others P each es all.1)
  ] where
    no_field : (o : Option FieldType) → known_field pool i e.0 ≡ o → known_field pool i e.0 ≡ None
    no_field None none = none
    no_field (Some g) there = absurd (no_field_too e.0 e.1 g all.0 there)

  -- what is so of each extension that is set
  pub all_extensions : (P : Entry → Type 0) → EachExtension P → AllByRecursion P (extension_entries m)
  all_extensions P each = all_others P each (extensions_of m) found_extensions
