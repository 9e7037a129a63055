-- Messages of which a list or a map takes further values, apart from what it then holds.
use Rattle.std.specs.Prelude.{◌≡◌, ◌≢◌, ◌⊎◌, ℕ, None, Some}
use Rattle.reflect_entries.specs.Entries.{IsAscending, value_at}
use Rattle.reflect_message.specs.Held.{Same, choices_of, extensions_of, fields_of, unknown_of}
use Rattle.reflect_message.specs.Names.{DynamicMessage}
use Rattle.reflect_message.specs.Oneofs.{sibling}
use Rattle.reflect_pool.specs.FieldsLeft.{field_type}
use Rattle.reflect_pool.specs.declared.extension.ExtensionDescriptor.{ExtensionDescriptor}
use Rattle.reflect_pool.specs.declared.field.FieldDescriptor.{FieldDescriptor}
use Rattle.reflect_scalar.specs.FieldTypes.{extension_type}

-- what stands under the field's number may change, the other member of its oneof that was noted
-- stays, as where the call is refused, or is unset, and nothing else is changed
pub record ExtendsField (old new : DynamicMessage) (f : FieldDescriptor) : Type 0 where
  pub same_type : new.descriptor ≡ old.descriptor
  pub noted : (n : ℕ) → sibling f (choices_of old) ≡ Some n
      → Same (fields_of old) (fields_of new) n ⊎ (value_at (fields_of new) n ≡ None)
  pub others : (n : ℕ) → n ≢ (field_type f).number → sibling f (choices_of old) ≢ Some n
      → Same (fields_of old) (fields_of new) n
  pub ascending : IsAscending (fields_of old) → IsAscending (fields_of new)
  pub extensions : extensions_of new ≡ extensions_of old
  pub unknown : unknown_of new ≡ unknown_of old

-- what stands under the extension's number may change, and nothing else is changed
pub record ExtendsExtension (old new : DynamicMessage) (x : ExtensionDescriptor) : Type 0 where
  pub same_type : new.descriptor ≡ old.descriptor
  pub others : (n : ℕ) → n ≢ (extension_type x).number
      → Same (extensions_of old) (extensions_of new) n
  pub ascending : IsAscending (extensions_of old) → IsAscending (extensions_of new)
  pub fields : fields_of new ≡ fields_of old
  pub unknown : unknown_of new ≡ unknown_of old
