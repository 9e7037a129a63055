-- What the tests of messages say of what stands under each number.
use Rattle.std.proofs.Common.{◌≡◌, ℕ, ◌==◌, ◌&&◌, Bool, true, false, true≢false, cond, List, [], ◌∷◌, Option, None, Some, unwrap_or, refl, sym, ap, ◌∙◌, subst, arith}
use Rattle.std.proofs.lemmas.Bool.{and_parts}
use Rattle.std.specs.List.{list_all}
use Rattle.reflect_pool.specs.FieldsLeft.{field_type}
use Rattle.reflect_pool.specs.declared.extension.ExtensionDescriptor.{ExtensionDescriptor}
use Rattle.reflect_pool.specs.declared.field.FieldDescriptor.{FieldDescriptor}
use Rattle.reflect_pool.specs.declared.message.MessageDescriptor.{MessageDescriptor}
use Rattle.reflect_tables.specs.Types.{FieldType, PoolType, extension_at}
use Rattle.reflect_entries.specs.Entries.{value_at}
use Rattle.reflect_scalar.specs.FieldTypes.{extension_type}
use Rattle.reflect_message.specs.Declares.{NoField, Owns, OwnsExtension}
use Rattle.reflect_message.specs.Held.{extensions_in, extensions_of, fields_in, fields_of}
use Rattle.reflect_message.specs.Known.{known_extension, known_field}
use Rattle.reflect_message.specs.Names as blocks
use Rattle.reflect_message.specs.Names.{DynamicMessage, Parts, Value}
use Rattle.reflect_message.specs.declared.parts.HeldOf.{out-HeldOf}
use Rattle.reflect_message.specs.declared.parts.HeldOf.TheFolds.{map-HeldOf, fold-HeldOf, fold-ValueOf, fold-MessageOf, fold-PartsOf, fold_out-HeldOf, fold_out-PartsOf}
use Rattle.reflect_message.specs.declared.parts.HeldOf.TheOpen.{HeldOf-F}
use Rattle.reflect_numbered.specs.Fits.{Fit, extension_fits, field_fits, fit_of, fits_of, held_step, message_step, parts_step, suits_type, under_fits, value_step}
use Rattle.reflect_numbered.specs.declared.validity.Strictness.{Strictness}
use Rattle.message_view.specs.Sound.{IsNotKept, IsSound}
use Rattle.message_view.proofs.Fields.{extension_owned, its_place, known_extension_is, none_known, owned}
use Rattle.message_view.proofs.Seen.{entries_opened, extensions_opened}
use Rattle.valid_view.proofs.Opened.{Kinded, Placed, held_fits}

-- what holds of each entry holds of the one of a number
at_number : (p : ℕ × Fit → Bool) (es : List (ℕ × Value)) (n : ℕ) (v : Value) → list_all p (fits_of es) ≡ true → value_at es n ≡ Some v → p (n, fit_of v) ≡ true
at_number p [] n v all at = absurd (cc at)
at_number p (e ∷ es) n v all at =
    let two = and_parts (p (e.0, fit_of e.1)) (list_all p (fits_of es)) all in
    by two.0 (λ there. at_number p es n v two.1 there) (n == e.0) refl at where
      by : p (e.0, fit_of e.1) ≡ true → (value_at es n ≡ Some v → p (n, fit_of v) ≡ true) → (b : Bool) → (n == e.0) ≡ b → cond b (Some e.1) (value_at es n) ≡ Some v → p (n, fit_of v) ≡ true
      by first later true is here =
          let number : e.0 ≡ n = grind (arith, is) in
          let value : e.1 ≡ v = ap (λ o. unwrap_or o v) here in
          subst (λ k. p (k, fit_of v) ≡ true) number (subst (λ u. p (e.0, fit_of u) ≡ true) value first)
      by first later false is there = later there

module _ (how : Strictness) (pool : PoolType) (i : ℕ) where
  abbrev Told : List (ℕ × Value) → List (ℕ × Value) → Bool
  Told fields extensions = list_all (field_fits how pool i) (fits_of fields) && list_all (extension_fits how pool i) (fits_of extensions)

  -- one level of what a message holds
  pub held_told : (h : blocks.Held) → held_fits h how pool i ≡ Told (fields_in h) (extensions_in h)
  held_told h = ap (λ s. s how pool i) (fold_out-HeldOf MessageDescriptor Placed Fit Kinded Placed held_step value_step message_step parts_step h) ∙ by (out-HeldOf MessageDescriptor h) where
    by : (o : HeldOf-F MessageDescriptor blocks.Held Value DynamicMessage Parts)
        → held_step (map-HeldOf MessageDescriptor blocks.Held Value DynamicMessage Parts Placed Fit Kinded Placed
        (fold-HeldOf MessageDescriptor Placed Fit Kinded Placed held_step value_step message_step parts_step)
        (fold-ValueOf MessageDescriptor Placed Fit Kinded Placed held_step value_step message_step parts_step)
        (fold-MessageOf MessageDescriptor Placed Fit Kinded Placed held_step value_step message_step parts_step)
        (fold-PartsOf MessageDescriptor Placed Fit Kinded Placed held_step value_step message_step parts_step) o) how pool i
        ≡ Told (entries_opened o) (extensions_opened o)
    by HeldOf-F.Nothing = refl
    by (HeldOf-F.Block b) = ap (λ s. s how pool i) (fold_out-PartsOf MessageDescriptor Placed Fit Kinded Placed held_step value_step message_step parts_step b.value)

-- a message that suits its type
module _ (how : Strictness) (m : DynamicMessage) (typed : suits_type how m ≡ true) where
  abbrev d : MessageDescriptor
  d = m.descriptor

  -- its fields do, and its extensions
  pub halves : (list_all (field_fits how d.pool.now d.index) (fits_of (fields_of m)) ≡ true) × (list_all (extension_fits how d.pool.now d.index) (fits_of (extensions_of m)) ≡ true)
  halves =
      let fields = list_all (field_fits how d.pool.now d.index) (fits_of (fields_of m)) in
      let extensions = list_all (extension_fits how d.pool.now d.index) (fits_of (extensions_of m)) in
      and_parts fields extensions (sym (held_told how d.pool.now d.index m.held) ∙ typed)

  pub under_field : (n : ℕ) (v : Value) → value_at (fields_of m) n ≡ Some v → under_fits how d.pool.now (known_field d.pool.now d.index n) (fit_of v) ≡ true
  under_field n v at = at_number (field_fits how d.pool.now d.index) (fields_of m) n v halves.0 at

  pub under_extension : (n : ℕ) (v : Value) → value_at (extensions_of m) n ≡ Some v → under_fits how d.pool.now (known_extension d.pool.now d.index n) (fit_of v) ≡ true
  under_extension n v at = at_number (extension_fits how d.pool.now d.index) (extensions_of m) n v halves.1 at

  -- what a field holds suits it
  pub field_whole : (f : FieldDescriptor) → Owns d f → (v : Value) → value_at (fields_of m) (field_type f).number ≡ Some v → (fit_of v).whole how d.pool.now (field_type f) ≡ true
  field_whole f owns v at = ap (λ o. under_fits how d.pool.now o (fit_of v)) (sym (owned d f owns)) ∙ under_field (field_type f).number v at

  -- and what an extension holds
  pub extension_whole : (x : ExtensionDescriptor) → OwnsExtension d x → (v : Value) → value_at (extensions_of m) (extension_type x).number ≡ Some v → (fit_of v).whole how d.pool.now (extension_type x) ≡ true
  extension_whole x owns v at = ap (λ o. under_fits how d.pool.now o (fit_of v)) (sym (extension_owned d x owns)) ∙ under_extension (extension_type x).number v at

  -- nothing stands under a number that no field has
  pub none_unowned : (n : ℕ) → NoField d n → value_at (fields_of m) n ≡ None
  none_unowned n none = by (value_at (fields_of m) n) refl where
    by : (o : Option Value) → value_at (fields_of m) n ≡ o → o ≡ None
    by None at = refl
    by (Some v) at = absurd (true≢false (sym (under_field n v at) ∙ ap (λ o. under_fits how d.pool.now o (fit_of v)) (none_known d n none)))

  -- an extension stands under the number of no field
  module _ (sound : IsSound d.pool.now) where
    differ : (f : FieldDescriptor) → Owns d f → (x : ExtensionDescriptor) → OwnsExtension d x → (extension_type x).number ≡ (field_type f).number → ⊥
    differ f owns x extends same =
        let free = subst (λ (g : FieldType). IsNotKept d.pool.now d.index g.number) (its_place d f owns) (sound.apart.free d.index f.index owns.1.0) in
        let its_own = ap (λ p. (extension_at p x.index).field.number) (sym extends.0.0) in
        let its_type = ap (λ p. (extension_at p x.index).extendee) (sym extends.0.0) ∙ extends.0.1 in
        sound.apart.kept x.index extends.1.0
        (subst (λ i. IsNotKept d.pool.now i (extension_at d.pool.now x.index).field.number) (sym its_type)
        (subst (IsNotKept d.pool.now d.index) (sym same ∙ sym its_own) free))

    pub none_beside : (f : FieldDescriptor) → Owns d f → value_at (extensions_of m) (field_type f).number ≡ None
    none_beside f owns = by (value_at (extensions_of m) (field_type f).number) refl where
      known_is : (v : Value) → (o : Option FieldType) → known_extension d.pool.now d.index (field_type f).number ≡ o → under_fits how d.pool.now o (fit_of v) ≡ true → ⊥
      known_is v None is h = true≢false (sym h)
      known_is v (Some g) is h =
          let x = known_extension_is d (field_type f).number g is in
          differ f owns x.0 x.1 (ap (λ (t : FieldType). t.number) x.2 ∙ x.3)

      by : (o : Option Value) → value_at (extensions_of m) (field_type f).number ≡ o → o ≡ None
      by None at = refl
      by (Some v) at = absurd (known_is v (known_extension d.pool.now d.index (field_type f).number) refl (under_extension (field_type f).number v at))
