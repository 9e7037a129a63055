-- What messages hold stays in the order of its numbers when lists and maps take further values.
use Rattle.reflect_decode.specs.Ordered.{IsOrdered}
use Rattle.reflect_message.specs.Contents.{content_of}
use Rattle.reflect_message.specs.Names.{DynamicMessage}
use Rattle.reflect_pool.specs.FieldsLeft.{field_type}
use Rattle.reflect_pool.specs.declared.extension.ExtensionDescriptor.{ExtensionDescriptor}
use Rattle.reflect_pool.specs.declared.field.FieldDescriptor.{FieldDescriptor}
use Rattle.reflect_scalar.specs.FieldTypes.{extension_pool, extension_type, field_pool}
use Rattle.message_view.specs.Sound.{IsSound}
use Rattle.message_view.proofs.Changed.{extension_ordered, field_ordered}
use Rattle.message_view.proofs.Numbered.{extension_number, field_number}
use Rattle.set_view.specs.Extends.{ExtendsExtension, ExtendsField}
use Rattle.set_view.proofs.Extended.{stays_or_goes}

module _ (old new : DynamicMessage) where
  pub field_extended : (f : FieldDescriptor) → IsSound (field_pool f) → ExtendsField old new f
      → IsOrdered (content_of old) → IsOrdered (content_of new)
  field_extended f sound extends =
      field_ordered (field_type f).number (field_number f sound) (content_of old) (content_of new)
      extends.unknown extends.extensions extends.ascending (stays_or_goes old new f extends)

  pub extension_extended : (x : ExtensionDescriptor) → IsSound (extension_pool x)
      → ExtendsExtension old new x → IsOrdered (content_of old) → IsOrdered (content_of new)
  extension_extended x sound extends =
      extension_ordered (extension_type x).number (extension_number x sound) (content_of old)
      (content_of new) extends.unknown extends.fields extends.ascending extends.others
