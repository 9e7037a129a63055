-- Messages that pass a test of their types still do where what is set passes it too.
use Rattle.std.proofs.Common.{◌≡◌, ◌≢◌, inl, inr, ℕ, ◌==◌, Bool, true, false, List, [], ◌∷◌, Option, Some, unwrap_or, refl, sym, ap, ◌∙◌, subst, arith}
use Rattle.std.specs.List.{AllByRecursion, list_all}
use Rattle.reflect_pool.specs.FieldsLeft.{field_type}
use Rattle.reflect_pool.specs.declared.extension.ExtensionDescriptor.{ExtensionDescriptor}
use Rattle.reflect_pool.specs.declared.field.FieldDescriptor.{FieldDescriptor}
use Rattle.reflect_pool.specs.declared.message.MessageDescriptor.{MessageDescriptor}
use Rattle.reflect_tables.specs.Types.{FieldType, KindType, PoolType}
use Rattle.reflect_entries.specs.Entries.{IsAscending, value_at}
use Rattle.reflect_scalar.specs.FieldTypes.{extension_type}
use Rattle.reflect_scalar.specs.declared.map_key.MapKey.{MapKey}
use Rattle.reflect_message.specs.Declares.{Owns, OwnsExtension}
use Rattle.reflect_message.specs.Held.{UpdatesExtension, choices_of, extensions_of, fields_of}
use Rattle.reflect_message.specs.Known.{known_extension, known_field}
use Rattle.reflect_message.specs.Names.{DynamicMessage, Value}
use Rattle.reflect_message.specs.Oneofs.{SetsField}
use Rattle.reflect_numbered.specs.Fits.{IsValidFor, extension_fits, field_fits, fit_of, fits_of, has_type, is_message, suits_type, under_fits}
use Rattle.reflect_numbered.specs.declared.validity.Strictness.{Strictness}
use Rattle.reflect_numbered.specs.declared.validity.Strictness.TheVariants.{Shape, Surface, Types}
use Rattle.message_view.proofs.Changed.{StaysOrGoes, others_stay}
use Rattle.message_view.proofs.Fields.{extension_owned, owned}
use Rattle.valid_view.specs.Inside.{EachMessage, IfMessage}
use Rattle.valid_view.proofs.Fitting.{of_type}
use Rattle.valid_view.proofs.Opened.{held_fits, kinds_of}
use Rattle.valid_view.proofs.Passing.{all_pass_again, both, each_passes, found, whole_passes}
use Rattle.valid_view.proofs.Testing.{halves, under_extension, under_field}
use Rattle.valid_view.proofs.Valid.{IsEntry, One, Whole, one_message, one_single, whole_list, whole_map, whole_of, whole_one}

-- ---- what suits on the surface suits so much as its messages suit their types

module _ (how : Strictness) (pool : PoolType) where
  abbrev Suits : DynamicMessage → Type 0
  Suits m = suits_type how m ≡ true

  pub kind_deep : (strictness : Strictness) (t : KindType) (m : DynamicMessage) → kinds_of m Surface pool t ≡ true → suits_type strictness m ≡ true → kinds_of m strictness pool t ≡ true
  kind_deep Surface t m is suits = is
  kind_deep Shape t m is suits = both (is_message t) (held_fits m.held Shape m.descriptor.pool.now m.descriptor.index) (ap is_message (of_type pool t m.descriptor is)) suits
  kind_deep Types t m is suits = both (has_type pool t m.descriptor) (held_fits m.held Types m.descriptor.pool.now m.descriptor.index) is suits

  pub one_deep : (t : KindType) (v : Value) → One Surface pool t v → IfMessage Suits v → One how pool t v
  one_deep t v (one_single w at is) inside = one_single w at is
  one_deep t v (one_message m at is) inside = one_message m at (kind_deep how t m is (inside m at))

  all_deep : (t : KindType) (vs : List Value) → AllByRecursion (One Surface pool t) vs → AllByRecursion (IfMessage Suits) vs → AllByRecursion (One how pool t) vs
  all_deep t [] all inside = tt
  all_deep t (v ∷ vs) all inside = (one_deep t v all.0 inside.0, all_deep t vs all.1 inside.1)

  entries_deep : (keys values : KindType) (es : List (MapKey × Value)) → AllByRecursion (IsEntry Surface pool keys values) es → AllByRecursion (λ (e : MapKey × Value). IfMessage Suits e.1) es
      → AllByRecursion (IsEntry how pool keys values) es
  entries_deep keys values [] all inside = tt
  entries_deep keys values (e ∷ es) all inside = ((all.0.0, one_deep values e.1 all.0.1 inside.0), entries_deep keys values es all.1 inside.1)

  whole_deep : (f : FieldType) (v : Value) → Whole Surface pool f v → EachMessage Suits v → Whole how pool f v
  whole_deep f v (whole_one no_map once one) inside = whole_one no_map once (one_deep f.kind v one inside.itself)
  whole_deep f v (whole_list no_map repeats vs at all) inside = whole_list no_map repeats vs at (all_deep f.kind vs all (inside.items vs at))
  whole_deep f v (whole_map is_map es at keys values first second all) inside =
      whole_map is_map es at keys values first second (entries_deep keys.kind values.kind es all (inside.entries es at))

  valid_passes : (f : FieldType) (v : Value) → IsValidFor pool f v → EachMessage Suits v → (fit_of v).whole how pool f ≡ true
  valid_passes f v valid inside = whole_passes how pool f v (whole_deep f v (whole_of Surface pool f v valid.1) inside)

  -- ---- under one number stands what passes, and under others what did or nothing
  pub changed_passes : (known : ℕ → Option FieldType) (k : ℕ) (g : FieldType) → known k ≡ Some g
      → (old new : List (ℕ × Value)) → ((v : Value) → value_at new k ≡ Some v → (fit_of v).whole how pool g ≡ true) → ((n : ℕ) → n ≢ k → StaysOrGoes old new n)
      → ((n : ℕ) (w : Value) → value_at old n ≡ Some w → under_fits how pool (known n) (fit_of w) ≡ true)
      → (n : ℕ) (w : Value) → value_at new n ≡ Some w → under_fits how pool (known n) (fit_of w) ≡ true
  changed_passes known k g there old new fits others passed n w at = by (n == k) refl where
    left : StaysOrGoes old new n → under_fits how pool (known n) (fit_of w) ≡ true
    left (inl same) = passed n w (sym same ∙ at)
    left (inr gone) = absurd (cc (sym gone ∙ at))

    by : (b : Bool) → (n == k) ≡ b → under_fits how pool (known n) (fit_of w) ≡ true
    by true is =
        let number : n ≡ k = grind (arith, is) in
        ap (λ o. under_fits how pool o (fit_of w)) (ap known number ∙ there) ∙ fits w (ap (value_at new) (sym number) ∙ at)
    by false is = left (others n (λ same. grind (arith, is, same)))

  -- the one value that is put there
  put_passes : (g : FieldType) (v : Value) → (fit_of v).whole how pool g ≡ true → (o : Option Value) → o ≡ Some v → (w : Value) → o ≡ Some w → (fit_of w).whole how pool g ≡ true
  put_passes g v fits o here w at =
      let value : v ≡ w = ap (λ o. unwrap_or o v) (sym here ∙ at) in
      subst (λ u. (fit_of u).whole how pool g ≡ true) value fits

module _ (how : Strictness) (old new : DynamicMessage) (suits : suits_type how old ≡ true) where
  abbrev pool : PoolType
  pool = old.descriptor.pool.now

  abbrev i : ℕ
  i = old.descriptor.index

  abbrev Inside : Value → Type 0
  Inside v = EachMessage (λ (m : DynamicMessage). suits_type how m ≡ true) v

  -- by the type that the message has still
  pub again : new.descriptor ≡ old.descriptor → list_all (field_fits how pool i) (fits_of (fields_of new)) ≡ true → list_all (extension_fits how pool i) (fits_of (extensions_of new)) ≡ true → suits_type how new ≡ true
  again type fields extensions =
      all_pass_again how new
      (subst (λ (d : MessageDescriptor). list_all (field_fits how d.pool.now d.index) (fits_of (fields_of new)) ≡ true) (sym type) fields)
      (subst (λ (d : MessageDescriptor). list_all (extension_fits how d.pool.now d.index) (fits_of (extensions_of new)) ≡ true) (sym type) extensions)

  pub set_typed : new.descriptor ≡ old.descriptor → (f : FieldDescriptor) → Owns old.descriptor f → (v : Value) → IsValidFor pool (field_type f) v → Inside v
      → SetsField old new f v → IsAscending (fields_of new) → suits_type how new ≡ true
  set_typed type f owns v valid inside sets up =
      again type
      (each_passes (field_fits how pool i) (fields_of new) (fields_of new) (found (fields_of new) up)
      (changed_passes how pool (known_field pool i) (field_type f).number (field_type f) (owned old.descriptor f owns) (fields_of old) (fields_of new)
      (put_passes how pool (field_type f) v (valid_passes how pool (field_type f) v valid inside) (value_at (fields_of new) (field_type f).number) sets.here)
      (others_stay f (choices_of old) (fields_of old) (fields_of new) sets.changes) (under_field how old suits)))
      (subst (λ (es : List (ℕ × Value)). list_all (extension_fits how pool i) (fits_of es) ≡ true) (sym sets.extensions) (halves how old suits).1)

  pub set_extension_typed : (x : ExtensionDescriptor) → OwnsExtension old.descriptor x → (v : Value) → IsValidFor pool (extension_type x) v → Inside v
      → UpdatesExtension old new (extension_type x).number (Some v) → suits_type how new ≡ true
  set_extension_typed x owns v valid inside updates =
      again updates.same_type
      (subst (λ (es : List (ℕ × Value)). list_all (field_fits how pool i) (fits_of es) ≡ true) (sym updates.fields) (halves how old suits).0)
      (each_passes (extension_fits how pool i) (extensions_of new) (extensions_of new) (found (extensions_of new) updates.extension.ascending)
      (changed_passes how pool (known_extension pool i) (extension_type x).number (extension_type x) (extension_owned old.descriptor x owns) (extensions_of old) (extensions_of new)
      (put_passes how pool (extension_type x) v (valid_passes how pool (extension_type x) v valid inside) (value_at (extensions_of new) (extension_type x).number) updates.extension.here)
      (λ n other. inl (updates.extension.others n other)) (under_extension how old suits)))
