-- What messages hold stays in the order of its numbers, whether or not it suits their fields.
use Rattle.std.proofs.Common.{◌≡◌, inl, Option, sym, subst}
use Rattle.reflect_decode.specs.Ordered.{IsOrdered}
use Rattle.reflect_decode.proofs.Ordering.{nothing_ordered}
use Rattle.reflect_entries.specs.Entries.{IsAscending}
use Rattle.reflect_message.specs.Contents.{content_of, nothing}
use Rattle.reflect_message.specs.Held.{UpdatesExtension, UpdatesField, choices_of, fields_of}
use Rattle.reflect_message.specs.Names.{DynamicMessage, Value}
use Rattle.reflect_message.specs.Oneofs.{SetsField}
use Rattle.reflect_pool.specs.FieldsLeft.{field_type}
use Rattle.reflect_pool.specs.declared.extension.ExtensionDescriptor.{ExtensionDescriptor}
use Rattle.reflect_pool.specs.declared.field.FieldDescriptor.{FieldDescriptor}
use Rattle.reflect_scalar.specs.FieldTypes.{extension_pool, extension_type, field_pool}
use Rattle.message_view.specs.Sound.{IsFieldNumber, IsSound}
use Rattle.message_view.proofs.Changed.{extension_ordered, field_ordered, others_stay}

-- fields and extensions have numbers that fields may have
pub field_number : (f : FieldDescriptor) → IsSound (field_pool f)
    → IsFieldNumber (field_type f).number
field_number f sound = sound.numbers.fields f.message.index f.index f.in_range

pub extension_number : (x : ExtensionDescriptor) → IsSound (extension_pool x)
    → IsFieldNumber (extension_type x).number
extension_number x sound = sound.numbers.extensions x.index x.in_range

pub empty_ordered : (m : DynamicMessage) → content_of m ≡ nothing → IsOrdered (content_of m)
empty_ordered m empty = subst IsOrdered (sym empty) nothing_ordered

module _ (old new : DynamicMessage) where
  pub set_ordered : (f : FieldDescriptor) → IsSound (field_pool f) → (v : Value)
      → SetsField old new f v → IsAscending (fields_of new) → IsOrdered (content_of old)
      → IsOrdered (content_of new)
  set_ordered f sound v sets ascending =
      field_ordered (field_type f).number (field_number f sound) (content_of old) (content_of new)
      sets.unknown sets.extensions (λ h. ascending)
      (others_stay f (choices_of old) (fields_of old) (fields_of new) sets.changes)

  pub field_updated : (f : FieldDescriptor) → IsSound (field_pool f) → (given : Option Value)
      → UpdatesField old new (field_type f).number given → IsOrdered (content_of old)
      → IsOrdered (content_of new)
  field_updated f sound given updates =
      field_ordered (field_type f).number (field_number f sound) (content_of old) (content_of new)
      updates.unknown updates.extensions (λ h. updates.field.ascending)
      (λ n apart. inl (updates.field.others n apart))

  pub extension_updated : (x : ExtensionDescriptor) → IsSound (extension_pool x)
      → (given : Option Value) → UpdatesExtension old new (extension_type x).number given
      → IsOrdered (content_of old) → IsOrdered (content_of new)
  extension_updated x sound given updates =
      extension_ordered (extension_type x).number (extension_number x sound) (content_of old)
      (content_of new) updates.unknown updates.fields (λ h. updates.extension.ascending)
      updates.extension.others
