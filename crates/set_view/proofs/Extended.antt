-- What stands in messages of which a list or a map takes further values.
use Rattle.std.proofs.Common.{◌≡◌, ◌≢◌, ◌⊎◌, inl, inr, ℕ, Option, None, Some, is_some, refl, sym, ap, ◌∙◌, subst}
use Rattle.reflect_entries.specs.Entries.{value_at}
use Rattle.reflect_extend.specs.Siblings.{LacksSibling}
use Rattle.reflect_message.specs.Contents.{content_of}
use Rattle.reflect_message.specs.Declares.{Owns, OwnsExtension}
use Rattle.reflect_message.specs.Held.{Same, choices_of, extensions_of, fields_of}
use Rattle.reflect_message.specs.Known.{known_field}
use Rattle.reflect_message.specs.Names.{DynamicMessage, Value}
use Rattle.reflect_message.specs.Oneofs.{IsExclusive, IsSibling, sibling}
use Rattle.reflect_message.proofs.Choosing.{is_or_not, sibling_is, sibling_of}
use Rattle.reflect_pool.specs.FieldsLeft.{field_type}
use Rattle.reflect_pool.specs.declared.extension.ExtensionDescriptor.{ExtensionDescriptor}
use Rattle.reflect_pool.specs.declared.field.FieldDescriptor.{FieldDescriptor}
use Rattle.reflect_pool.specs.declared.message.MessageDescriptor.{MessageDescriptor}
use Rattle.reflect_scalar.specs.FieldTypes.{extension_type}
use Rattle.reflect_tables.specs.Types.{FieldType}
use Rattle.message_view.specs.Shaped.{FitsShaped, IsShaped}
use Rattle.message_view.specs.Sound.{IsSound}
use Rattle.message_view.proofs.Changed.{extension_shaped, field_shaped}
use Rattle.message_view.proofs.Fields.{known}
use Rattle.set_view.specs.Extends.{ExtendsExtension, ExtendsField}

module _ (old new : DynamicMessage) where
  abbrev d : MessageDescriptor
  d = old.descriptor

  -- under another number stands what stood there, or nothing
  pub stays_or_goes : (f : FieldDescriptor) → ExtendsField old new f → (n : ℕ) → n ≢ (field_type f).number
      → Same (fields_of old) (fields_of new) n ⊎ (value_at (fields_of new) n ≡ None)
  stays_or_goes f extends n other = by (is_or_not (sibling f (choices_of old)) n) where
    by : (sibling f (choices_of old) ≡ Some n) ⊎ (sibling f (choices_of old) ≢ Some n)
        → Same (fields_of old) (fields_of new) n ⊎ (value_at (fields_of new) n ≡ None)
    by (inl noted) = extends.noted n noted
    by (inr apart) = inl (extends.others n other apart)

  -- where the one that was noted holds nothing, no other member of the field's oneof does
  pub sibling_gone : (f : FieldDescriptor) → IsExclusive old → ExtendsField old new f → LacksSibling f (choices_of old) (fields_of new) → (n : ℕ) → IsSibling d f n → value_at (fields_of new) n ≡ None
  sibling_gone f exclusive extends lacks n (first, g, owned, is, other, mine, its) = by (is_or_not (sibling f (choices_of old)) n) where
    held : (o : Option Value) → value_at (fields_of old) n ≡ o → sibling f (choices_of old) ≢ Some n → o ≡ None
    held None at apart = refl
    held (Some v) at apart =
        let noted = exclusive.noted g owned first its (ap (λ k. is_some (value_at (fields_of old) k)) is ∙ ap is_some at) in
        absurd (apart (sibling_of f (choices_of old) n first mine (noted ∙ ap Some is) other))

    by : (sibling f (choices_of old) ≡ Some n) ⊎ (sibling f (choices_of old) ≢ Some n) → value_at (fields_of new) n ≡ None
    by (inl noted) = lacks n noted
    by (inr apart) = extends.others n other apart ∙ held (value_at (fields_of old) n) refl apart

  -- what is no member of it stays
  pub other_stays : (f : FieldDescriptor) → IsExclusive old → ExtendsField old new f → (n : ℕ) → n ≢ (field_type f).number → (IsSibling d f n → ⊥) → Same (fields_of old) (fields_of new) n
  other_stays f exclusive extends n other apart = extends.others n other (λ noted.
      let is = sibling_is f (choices_of old) n noted in
      let member = exclusive.member is.0 n is.2 in
      apart (is.0, member.0, member.1, member.2, other, is.1, member.3))

  module _ (inner : DynamicMessage → Type 0) (sound : IsSound old.descriptor.pool.now) (shape : IsShaped inner old.descriptor (content_of old)) where
    -- where what then stands under the number fits, the message is in shape
    pub field_in_shape : (f : FieldDescriptor) → Owns d f → ExtendsField old new f
        → ((v : Value) → value_at (fields_of new) (field_type f).number ≡ Some v → FitsShaped inner d.pool.now (field_type f) v)
        → IsShaped inner new.descriptor (content_of new)
    field_in_shape f owns extends fits =
        subst (λ (d : MessageDescriptor). IsShaped inner d (content_of new)) (sym extends.same_type)
        (field_shaped inner d sound f owns (content_of old) (content_of new) shape extends.extensions extends.unknown
        (extends.ascending shape.ordered.fields.ascending) (stays_or_goes f extends) fits)

    pub extension_in_shape : (x : ExtensionDescriptor) → OwnsExtension d x → ExtendsExtension old new x
        → ((v : Value) → value_at (extensions_of new) (extension_type x).number ≡ Some v → FitsShaped inner d.pool.now (extension_type x) v)
        → IsShaped inner new.descriptor (content_of new)
    extension_in_shape x owns extends fits =
        let under = value_at (extensions_of new) (extension_type x).number in
        subst (λ (d : MessageDescriptor). IsShaped inner d (content_of new)) (sym extends.same_type)
        (extension_shaped inner d sound x owns (content_of old) (content_of new) shape extends.fields extends.unknown under
        (record { here = refl; others = extends.others; ascending = extends.ascending shape.ordered.extensions.ascending }) fits)

    -- what stands there before fits
    pub field_fits : (f : FieldDescriptor) → Owns d f → (v : Value) → value_at (fields_of old) (field_type f).number ≡ Some v → FitsShaped inner d.pool.now (field_type f) v
    field_fits f owns v at = shape.fields f owns v at

    pub extension_fits : (x : ExtensionDescriptor) → OwnsExtension d x → (v : Value) → value_at (extensions_of old) (extension_type x).number ≡ Some v → FitsShaped inner d.pool.now (extension_type x) v
    extension_fits x owns v at = by (known_field d.pool.now d.index (extension_type x).number) refl where
      by : (o : Option FieldType) → known_field d.pool.now d.index (extension_type x).number ≡ o → FitsShaped inner d.pool.now (extension_type x) v
      by None none = shape.extensions x owns none v at
      by (Some g) is =
          let f = known d (extension_type x).number g is in
          let same : (field_type f.0).number ≡ (extension_type x).number = ap (λ (t : FieldType). t.number) f.2 ∙ f.3 in
          absurd (cc (sym at ∙ ap (value_at (extensions_of old)) (sym same) ∙ shape.apart f.0 f.1))
