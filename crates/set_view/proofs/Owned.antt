-- Where numbers are apart, each field and each extension of a type that messages hold has the
-- records of its number, and no field has those of an extension's.
use Rattle.std.proofs.Common.{◌≡◌, ℕ, ◌<◌, ◌≤◌, suc, zero, List, [], ◌∷◌, Some, refl, sym, ap, ◌∙◌, subst, arith}
use Rattle.std.specs.Prelude.{slice_index_or, length}
use Rattle.reflect_tables.specs.Types.{FieldType, ExtensionType, type_at, type_of_field, no_field, no_extension, extension_at}
use Rattle.reflect_pool.specs.FieldsLeft.{field_type}
use Rattle.reflect_pool.specs.Finds.{FindsAny}
use Rattle.reflect_pool.specs.declared.extension.ExtensionDescriptor.{ExtensionDescriptor}
use Rattle.reflect_pool.specs.declared.field.FieldDescriptor.{FieldDescriptor}
use Rattle.reflect_pool.specs.declared.message.MessageDescriptor.{MessageDescriptor}
use Rattle.reflect_scalar.specs.FieldTypes.{extension_pool, extension_type, field_pool}
use Rattle.reflect_scalar.specs.Floats.{HoldsFloats}
use Rattle.reflect_message.specs.Declares.{Declares, Extends, NoField, Owns, OwnsExtension}
use Rattle.message_view.specs.Sound.{AreApart, IsNotKept}
use Rattle.message_view.proofs.Fields.{its_place}

any_default : {X : Type 0} (xs : List X) (k : ℕ) (d e : X) → k < length xs
    → slice_index_or xs k d ≡ slice_index_or xs k e
any_default [] k d e lt = absurd (omega (arith, lt))
any_default (x ∷ xs) zero d e lt = refl
any_default (x ∷ xs) (suc k) d e lt = any_default xs k d e (omega (arith, lt))

module _ (m : MessageDescriptor) (apart : AreApart m.pool.now) where
  abbrev fields : List FieldType
  fields = (type_at m.pool.now m.index).fields

  abbrev extensions : List ExtensionType
  extensions = m.pool.now.extensions

  module _ (f : FieldDescriptor) (declared : Declares m f) where
    here : type_of_field m.pool.now m.index f.index ≡ field_type f
    here =
        ap (λ i. type_of_field m.pool.now i f.index) (sym declared.0)
        ∙ ap (λ p. type_of_field p f.message.index f.index) (sym declared.1)

    there : f.index < length fields
    there =
        subst (λ i. f.index < length (type_at m.pool.now i).fields) declared.0
        (subst (λ p. f.index < length (type_at p f.message.index).fields) declared.1 f.in_range)

    before : (k : ℕ) (d : FieldType) → 0 ≤ k → k < f.index
        → (slice_index_or fields k d).number ≡ (field_type f).number → ⊥
    before k d low below e =
        let in_list : k < length fields = omega (arith, there, below) in
        let same : k ≡ f.index =
        apart.fields m.index k f.index in_list there
        (ap (λ (t : FieldType). t.number) (any_default fields k no_field d in_list) ∙ e
        ∙ sym (ap (λ (t : FieldType). t.number) here)) in
        omega (arith, below, same)

    pub field_owns : (HoldsFloats (field_pool f) (field_type f) → ⊥) → Owns m f
    field_owns whole = (
      declared,
      (there, ((λ d. ap (λ (t : FieldType). t.number) (any_default fields f.index d no_field there ∙ here)), before)),
      whole,
    )

  module _ (x : ExtensionDescriptor) (extends : Extends m x) where
    placed : x.index < length extensions
    placed = subst (λ p. x.index < length p.extensions) extends.0 x.in_range

    stands : (d : ExtensionType) → slice_index_or extensions x.index d ≡ extension_at x.pool.now x.index
    stands d = any_default extensions x.index d no_extension placed ∙ ap (λ p. extension_at p x.index) (sym extends.0)

    earlier : (k : ℕ) (d : ExtensionType) → 0 ≤ k → k < x.index
        → ((slice_index_or extensions k d).extendee ≡ m.index)
        × ((slice_index_or extensions k d).field.number ≡ (extension_type x).number) → ⊥
    earlier k d low below e =
        let in_list : k < length extensions = omega (arith, placed, below) in
        let at = any_default extensions k no_extension d in_list in
        let same : k ≡ x.index =
        apart.extensions k x.index in_list placed
        (ap (λ (y : ExtensionType). y.extendee) at ∙ e.0 ∙ sym extends.1
        ∙ ap (λ (y : ExtensionType). y.extendee) (sym (stands no_extension)))
        (ap (λ (y : ExtensionType). y.field.number) at ∙ e.1
        ∙ ap (λ (y : ExtensionType). y.field.number) (sym (stands no_extension))) in
        omega (arith, below, same)

    first : FindsAny (λ y. (y.extendee ≡ m.index) × (y.field.number ≡ (extension_type x).number))
        m.pool.now (Some x)
    first = (
      placed,
      ((λ d. (ap (λ (y : ExtensionType). y.extendee) (stands d) ∙ extends.1, ap (λ (y : ExtensionType). y.field.number) (stands d))), earlier),
    )

    pub extension_owns : (HoldsFloats (extension_pool x) (extension_type x) → ⊥) → OwnsExtension m x
    extension_owns whole = (extends, first, whole)

  -- the number of an extension is kept for it, and so is that of no field
  pub no_field_there : (x : ExtensionDescriptor) → OwnsExtension m x → NoField m (extension_type x).number
  no_field_there x own f owns same =
      let free = subst (λ (g : FieldType). IsNotKept m.pool.now m.index g.number) (its_place m f owns)
      (apart.free m.index f.index owns.1.0) in
      let its_own = ap (λ p. (extension_at p x.index).field.number) (sym own.0.0) in
      let its_type = ap (λ p. (extension_at p x.index).extendee) (sym own.0.0) ∙ own.0.1 in
      apart.kept x.index own.1.0
      (subst (λ i. IsNotKept m.pool.now i (extension_at m.pool.now x.index).field.number)
      (sym its_type) (subst (IsNotKept m.pool.now m.index) (same ∙ sym its_own) free))
