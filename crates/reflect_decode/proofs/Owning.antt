-- What records leave is the same in whichever way their field is found.
use Rattle.std.proofs.Common.{◌≡◌, List, Option, sym, subst}
use Rattle.reflect_tables.specs.Types.{type_of_field, extension_at}
use Rattle.reflect_pool.specs.FieldsLeft.{field_type}
use Rattle.reflect_pool.specs.declared.message.MessageDescriptor.{MessageDescriptor}
use Rattle.reflect_pool.specs.declared.field.FieldDescriptor.{FieldDescriptor}
use Rattle.reflect_pool.specs.declared.extension.ExtensionDescriptor.{ExtensionDescriptor}
use Rattle.reflect_wire.specs.Records.{Payload}
use Rattle.reflect_scalar.specs.FieldTypes.{field_pool, extension_pool, extension_type}
use Rattle.reflect_message.specs.Declares.{Owns, OwnsExtension}
use Rattle.reflect_message.specs.Names.{Value}
use Rattle.reflect_message.proofs.Owning.{alike, one_extension, one_pool}
use Rattle.reflect_decode.specs.Messages.{Takes}
use Rattle.reflect_decode.specs.Taking.{Leaves}

module _ (m : MessageDescriptor) where
  -- of a field
  module _ (f g : FieldDescriptor) (owns : Owns m f) (other : Owns m g) (same : (field_type f).number ≡ (field_type g).number) where
    pub leaves_same : (inner : Takes) (old new : Option Value) (ps : List Payload) → Leaves inner (field_pool g) (field_type g) old new ps → Leaves inner (field_pool f) (field_type f) old new ps
    leaves_same inner old new ps h =
        subst (λ p. Leaves inner p (field_type f) old new ps) (sym (alike m f g owns other same (λ p i k. p))) (subst (λ t. Leaves inner (field_pool g) t old new ps) (sym (alike m f g owns other same type_of_field)) h)

  -- and of an extension
  module _ (x y : ExtensionDescriptor) (owns : OwnsExtension m x) (other : OwnsExtension m y) (same : (extension_type x).number ≡ (extension_type y).number) where
    pub extension_same : (inner : Takes) (old new : Option Value) (ps : List Payload) → Leaves inner (extension_pool y) (extension_type y) old new ps → Leaves inner (extension_pool x) (extension_type x) old new ps
    extension_same inner old new ps h =
        subst (λ i. Leaves inner (extension_pool x) (extension_at (extension_pool x) i).field old new ps) (sym (one_extension m x y owns other same)) (subst (λ p. Leaves inner p (extension_at p y.index).field old new ps) (sym (one_pool m x y owns other same)) h)
