-- Descriptors are the same where they stand at one place, under one full name.
use Rattle.std.specs.Prelude.{◌==◌, ◌&&◌, Bool, bytes_eq}
use Rattle.reflect_tables.specs.Types.{type_at, enum_at, extension_at}
use Rattle.reflect_pool.specs.declared.message.MessageDescriptor.{MessageDescriptor}
use Rattle.reflect_pool.specs.declared.field.FieldDescriptor.{FieldDescriptor}
use Rattle.reflect_pool.specs.declared.oneof.OneofDescriptor.{OneofDescriptor}
use Rattle.reflect_pool.specs.declared.enums.EnumDescriptor.{EnumDescriptor}
use Rattle.reflect_pool.specs.declared.enums.EnumValueDescriptor.{EnumValueDescriptor}
use Rattle.reflect_pool.specs.declared.extension.ExtensionDescriptor.{ExtensionDescriptor}

abbrev pub same_message : MessageDescriptor → MessageDescriptor → Bool
same_message a b = (a.index == b.index)
    && bytes_eq (type_at a.pool.now a.index).full_name (type_at b.pool.now b.index).full_name

abbrev pub same_field : FieldDescriptor → FieldDescriptor → Bool
same_field a b = (a.index == b.index) && same_message a.message b.message

abbrev pub same_oneof : OneofDescriptor → OneofDescriptor → Bool
same_oneof a b = (a.index == b.index) && same_message a.message b.message

abbrev pub same_enum : EnumDescriptor → EnumDescriptor → Bool
same_enum a b = (a.index == b.index)
    && bytes_eq (enum_at a.pool.now a.index).full_name (enum_at b.pool.now b.index).full_name

abbrev pub same_value : EnumValueDescriptor → EnumValueDescriptor → Bool
same_value a b = (a.index == b.index) && same_enum a.enumeration b.enumeration

abbrev pub same_extension : ExtensionDescriptor → ExtensionDescriptor → Bool
same_extension a b = (a.index == b.index)
    && bytes_eq (extension_at a.pool.now a.index).field.full_name
    (extension_at b.pool.now b.index).field.full_name
