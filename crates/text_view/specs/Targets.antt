-- What a text names, in the words of the model.
use Rattle.std.specs.Prelude.{true, false, None}
use Rattle.protobuf_model.specs.Types.{Field}
use Rattle.reflect_pool.specs.FieldsLeft.{field_type}
use Rattle.reflect_pool.specs.declared.message.MessageDescriptor.{MessageDescriptor}
use Rattle.reflect_scalar.specs.FieldTypes.{extension_type}
use Rattle.reflect_format.specs.declared.target.Target.{Target}
use Rattle.reflect_format.specs.declared.target.Target.TheVariants as targets
use Rattle.message_view.specs.Types.{field_of, oneof_at}

-- a field of the type, which may be a member of a oneof, or an extension of it
abbrev pub target_field : MessageDescriptor → Target → Field
target_field m (targets.Field f) =
    field_of m.pool.now (oneof_at m.pool.now m.index (field_type f)) false (field_type f)
target_field m (targets.Extension x) = field_of m.pool.now None true (extension_type x)
