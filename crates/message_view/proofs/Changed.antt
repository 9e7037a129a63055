-- Messages stay in shape when fields and extensions are set and unset.
use Rattle.std.proofs.Common.{◌≡◌, ◌≢◌, ◌⊎◌, inl, inr, ◌≤◌, ℕ, suc, ◌==◌, Bool, true, false, List, Option, Some, None, refl, sym, ap, ◌∙◌, subst, arith}
use Rattle.protobuf_model.specs.Meaning.{payloads}
use Rattle.reflect_decode.specs.Ordered.{AreNumbered, Ascend, IsOrdered, last}
use Rattle.reflect_decode.proofs.Ordering.{nothing_ordered, numbered_put}
use Rattle.reflect_entries.specs.Entries.{IsAscending, Updates, value_at}
use Rattle.reflect_message.specs.Contents.{Content, content_of, nothing}
use Rattle.reflect_message.specs.Declares.{NoField, Owns, OwnsExtension}
use Rattle.reflect_message.specs.Held.{Same, UpdatesExtension, UpdatesField, fields_of}
use Rattle.reflect_message.specs.Known.{known_extension, known_field}
use Rattle.reflect_message.specs.Oneofs.{AreChosen, Changes, SetsField, sibling}
use Rattle.reflect_message.specs.Names.{DynamicMessage, Value}
use Rattle.reflect_pool.specs.FieldsLeft.{field_type}
use Rattle.reflect_pool.specs.declared.extension.ExtensionDescriptor.{ExtensionDescriptor}
use Rattle.reflect_pool.specs.declared.field.FieldDescriptor.{FieldDescriptor}
use Rattle.reflect_pool.specs.declared.message.MessageDescriptor.{MessageDescriptor}
use Rattle.reflect_scalar.specs.FieldTypes.{extension_type}
use Rattle.reflect_tables.specs.Types.{FieldType, extension_at}
use Rattle.message_view.specs.Shaped.{FitsShaped, HasShape, IsShaped}
use Rattle.message_view.specs.Sound.{IsFieldNumber, IsNotKept, IsSound}
use Rattle.message_view.proofs.Deeper.{whole_shape}
use Rattle.message_view.proofs.Fields.{extension_owned, its_place, owned}
use Rattle.message_view.proofs.Left.{nothing_chosen}

-- under a number stands what stood there, or nothing
abbrev pub StaysOrGoes : List (ℕ × Value) → List (ℕ × Value) → ℕ → Type 0
StaysOrGoes old new n = Same old new n ⊎ (value_at new n ≡ None)

within_bounds : (n : ℕ) → IsFieldNumber n → (1 ≤ n) × (n ≤ last)
within_bounds n h = (omega (arith, h.0), omega (arith, h.1))

-- a field that is set drives out the member of its oneof that was noted, and nothing else
pub others_stay : (f : FieldDescriptor) (choices : List (ℕ × ℕ)) (old new : List (ℕ × Value))
    → Changes f choices old new → (n : ℕ) → n ≢ (field_type f).number → StaysOrGoes old new n
others_stay f choices old new changes n apart = by (sibling f choices) refl where
  by : (o : Option ℕ) → sibling f choices ≡ o → StaysOrGoes old new n
  by None is = inl (changes.others n apart (λ e. absurd (cc (sym is ∙ e))))
  by (Some q) is = whether (q == n) refl where
    whether : (b : Bool) → (q == n) ≡ b → StaysOrGoes old new n
    whether true e =
        let same : q ≡ n = grind (arith, e) in inr (changes.unset n (is ∙ ap (λ k. Some k) same))
    whether false e =
        inl (changes.others n apart (λ noted. other (cc (sym is ∙ noted)))) where
          other : q ≡ n → ⊥
          other same = grind (arith, e, same)

-- numbers and records stay in order, where what stands under one number is changed
module _ (k : ℕ) (number : IsFieldNumber k) (old new : Content) (same_unknown : new.unknown ≡ old.unknown) where
  pub field_ordered : new.extensions ≡ old.extensions → (IsAscending old.fields → IsAscending new.fields)
      → ((n : ℕ) → n ≢ k → StaysOrGoes old.fields new.fields n) → IsOrdered old → IsOrdered new
  field_ordered same_extensions rising others ordered = record {
    fields = numbered_put k (within_bounds k number) old.fields new.fields rising others ordered.fields;
    extensions = subst AreNumbered (sym same_extensions) ordered.extensions;
    unknown = subst (Ascend 1 last) (sym same_unknown) ordered.unknown;
  }

  pub extension_ordered : new.fields ≡ old.fields → (IsAscending old.extensions → IsAscending new.extensions)
      → ((n : ℕ) → n ≢ k → Same old.extensions new.extensions n) → IsOrdered old → IsOrdered new
  extension_ordered same_fields rising others ordered = record {
    fields = subst AreNumbered (sym same_fields) ordered.fields;
    extensions = numbered_put k (within_bounds k number) old.extensions new.extensions rising (λ n apart. inl (others n apart)) ordered.extensions;
    unknown = subst (Ascend 1 last) (sym same_unknown) ordered.unknown;
  }

-- nothing is held
pub empty_shaped : (inner : DynamicMessage → Type 0) (d : MessageDescriptor)
    → IsShaped inner d nothing
empty_shaped inner d = record {
  ordered = nothing_ordered;
  fields = λ f owns v at. absurd (cc at);
  extensions = λ x owns none v at. absurd (cc at);
  apart = λ f owns. refl;
  unowned = λ n none. refl;
  declared = λ n is. refl;
}

pub nothing_shaped : (exclusive : Bool) (levels : ℕ) (m : DynamicMessage) → content_of m ≡ nothing
    → HasShape exclusive (suc levels) m
nothing_shaped exclusive levels m empty =
    let d = m.descriptor in
    whole_shape exclusive levels m
    (subst (IsShaped (HasShape exclusive levels) d) (sym empty)
    (empty_shaped (HasShape exclusive levels) d))
    (subst (λ (c : Content). AreChosen d c.choices c.fields) (sym empty) (nothing_chosen d))

module _ (inner : DynamicMessage → Type 0) (d : MessageDescriptor) (sound : IsSound d.pool.now) where
  field_number : (f : FieldDescriptor) → Owns d f → IsFieldNumber (field_type f).number
  field_number f owns = subst (λ (g : FieldType). IsFieldNumber g.number) (its_place d f owns) (sound.numbers.fields d.index f.index owns.1.0)

  extension_number : (x : ExtensionDescriptor) → OwnsExtension d x → IsFieldNumber (extension_type x).number
  extension_number x owns = subst (λ p. IsFieldNumber (extension_at p x.index).field.number) (sym owns.0.0) (sound.numbers.extensions x.index owns.1.0)

  -- fields and extensions have different numbers
  numbers_differ : (f : FieldDescriptor) (x : ExtensionDescriptor) → Owns d f → OwnsExtension d x → (field_type f).number ≢ (extension_type x).number
  numbers_differ f x owns extends same =
      let free = subst (λ (g : FieldType). IsNotKept d.pool.now d.index g.number) (its_place d f owns) (sound.apart.free d.index f.index owns.1.0) in
      let its_own = ap (λ p. (extension_at p x.index).field.number) (sym extends.0.0) in
      let its_type = ap (λ p. (extension_at p x.index).extendee) (sym extends.0.0) ∙ extends.0.1 in
      sound.apart.kept x.index extends.1.0
      (subst (λ i. IsNotKept d.pool.now i (extension_at d.pool.now x.index).field.number) (sym its_type)
      (subst (IsNotKept d.pool.now d.index) (same ∙ sym its_own) free))

  -- under the number of a field stands what is given, and under others what stood there, or nothing
  pub field_shaped : (f : FieldDescriptor) → Owns d f → (old new : Content) → IsShaped inner d old
      → new.extensions ≡ old.extensions → new.unknown ≡ old.unknown → IsAscending new.fields
      → ((n : ℕ) → n ≢ (field_type f).number → StaysOrGoes old.fields new.fields n)
      → ((v : Value) → value_at new.fields (field_type f).number ≡ Some v → FitsShaped inner d.pool.now (field_type f) v)
      → IsShaped inner d new
  field_shaped f owns old new shape same_extensions same_unknown ascending others here = record {
    ordered = field_ordered (field_type f).number (field_number f owns) old new same_unknown same_extensions (λ h. ascending) others shape.ordered;
    fields = each_field;
    extensions = λ x extends none v at. shape.extensions x extends none v (ap (λ es. value_at es (extension_type x).number) (sym same_extensions) ∙ at);
    apart = λ g own. ap (λ es. value_at es (field_type g).number) same_extensions ∙ shape.apart g own;
    unowned = λ n none. unowned n none (others n (λ e. none f owns (sym e)));
    declared = λ n is. ap (payloads n) same_unknown ∙ shape.declared n is;
  } where
    each_field : (g : FieldDescriptor) → Owns d g → (v : Value) → value_at new.fields (field_type g).number ≡ Some v → FitsShaped inner d.pool.now (field_type g) v
    each_field g own v at = by ((field_type g).number == (field_type f).number) refl where
      kept : StaysOrGoes old.fields new.fields (field_type g).number → FitsShaped inner d.pool.now (field_type g) v
      kept (inl same) = shape.fields g own v (sym same ∙ at)
      kept (inr none) = absurd (cc (sym at ∙ none))

      by : (b : Bool) → ((field_type g).number == (field_type f).number) ≡ b → FitsShaped inner d.pool.now (field_type g) v
      by true e =
          let same : (field_type g).number ≡ (field_type f).number = grind (arith, e) in
          let one : field_type f ≡ field_type g = cc (sym (owned d f owns) ∙ ap (known_field d.pool.now d.index) (sym same) ∙ owned d g own) in
          subst (λ (t : FieldType). FitsShaped inner d.pool.now t v) one (here v (ap (value_at new.fields) (sym same) ∙ at))
      by false e = kept (others (field_type g).number (λ same. grind (arith, e, same)))

    unowned : (n : ℕ) → NoField d n → StaysOrGoes old.fields new.fields n → value_at new.fields n ≡ None
    unowned n none (inl same) = same ∙ shape.unowned n none
    unowned n none (inr gone) = gone

  -- the same of an extension
  pub extension_shaped : (x : ExtensionDescriptor) → OwnsExtension d x → (old new : Content) → IsShaped inner d old
      → new.fields ≡ old.fields → new.unknown ≡ old.unknown → (given : Option Value)
      → Updates old.extensions new.extensions (extension_type x).number given
      → ((v : Value) → given ≡ Some v → FitsShaped inner d.pool.now (extension_type x) v)
      → IsShaped inner d new
  extension_shaped x extends old new shape same_fields same_unknown given updates fits = record {
    ordered = extension_ordered (extension_type x).number (extension_number x extends) old new same_unknown same_fields (λ h. updates.ascending) updates.others shape.ordered;
    fields = λ f own v at. shape.fields f own v (ap (λ es. value_at es (field_type f).number) (sym same_fields) ∙ at);
    extensions = each_extension;
    apart = λ f own. updates.others (field_type f).number (numbers_differ f x own extends) ∙ shape.apart f own;
    unowned = λ n none. ap (λ es. value_at es n) same_fields ∙ shape.unowned n none;
    declared = λ n is. ap (payloads n) same_unknown ∙ shape.declared n is;
  } where
    each_extension : (y : ExtensionDescriptor) → OwnsExtension d y → known_field d.pool.now d.index (extension_type y).number ≡ None
        → (v : Value) → value_at new.extensions (extension_type y).number ≡ Some v → FitsShaped inner d.pool.now (extension_type y) v
    each_extension y own none v at = by ((extension_type y).number == (extension_type x).number) refl where
      by : (b : Bool) → ((extension_type y).number == (extension_type x).number) ≡ b → FitsShaped inner d.pool.now (extension_type y) v
      by true e =
          let same : (extension_type y).number ≡ (extension_type x).number = grind (arith, e) in
          let one : extension_type x ≡ extension_type y = cc (sym (extension_owned d x extends) ∙ ap (known_extension d.pool.now d.index) (sym same) ∙ extension_owned d y own) in
          subst (λ (t : FieldType). FitsShaped inner d.pool.now t v) one (fits v (sym updates.here ∙ ap (value_at new.extensions) (sym same) ∙ at))
      by false e = shape.extensions y own none v (sym (updates.others (extension_type y).number (λ same. grind (arith, e, same))) ∙ at)

-- what set, cleared and taken fields and extensions leave
module _ (inner : DynamicMessage → Type 0) (old new : DynamicMessage) (sound : IsSound old.descriptor.pool.now) (type : new.descriptor ≡ old.descriptor) (shape : IsShaped inner old.descriptor (content_of old)) where
  -- the new message is of the same type
  its_own : IsShaped inner old.descriptor (content_of new) → IsShaped inner new.descriptor (content_of new)
  its_own = subst (λ (d : MessageDescriptor). IsShaped inner d (content_of new)) (sym type)

  pub set_shaped : (f : FieldDescriptor) → Owns old.descriptor f → (v : Value) → FitsShaped inner old.descriptor.pool.now (field_type f) v
      → SetsField old new f v → IsAscending (fields_of new) → IsShaped inner new.descriptor (content_of new)
  set_shaped f owns v fits sets ascending =
      its_own (field_shaped inner old.descriptor sound f owns (content_of old) (content_of new) shape sets.extensions sets.unknown ascending
      (others_stay f (content_of old).choices (fields_of old) (fields_of new) sets.changes)
      (λ w at. subst (FitsShaped inner old.descriptor.pool.now (field_type f)) (cc (sym sets.here ∙ at)) fits))

  pub unset_shaped : (f : FieldDescriptor) → Owns old.descriptor f → UpdatesField old new (field_type f).number None → IsShaped inner new.descriptor (content_of new)
  unset_shaped f owns updates =
      its_own (field_shaped inner old.descriptor sound f owns (content_of old) (content_of new) shape updates.extensions updates.unknown updates.field.ascending
      (λ n apart. inl (updates.field.others n apart)) (λ w at. absurd (cc (sym updates.field.here ∙ at))))

  pub set_extension_shaped : (x : ExtensionDescriptor) → OwnsExtension old.descriptor x → (v : Value) → FitsShaped inner old.descriptor.pool.now (extension_type x) v
      → UpdatesExtension old new (extension_type x).number (Some v) → IsShaped inner new.descriptor (content_of new)
  set_extension_shaped x extends v fits updates =
      its_own (extension_shaped inner old.descriptor sound x extends (content_of old) (content_of new) shape updates.fields updates.unknown (Some v) updates.extension
      (λ w is. subst (FitsShaped inner old.descriptor.pool.now (extension_type x)) (cc is) fits))

  pub unset_extension_shaped : (x : ExtensionDescriptor) → OwnsExtension old.descriptor x → UpdatesExtension old new (extension_type x).number None → IsShaped inner new.descriptor (content_of new)
  unset_extension_shaped x extends updates =
      its_own (extension_shaped inner old.descriptor sound x extends (content_of old) (content_of new) shape updates.fields updates.unknown None updates.extension
      (λ w is. absurd (cc is)))
