-- The records that descriptors lend: of each entry of a pool the record of its name at its path in
-- the record of its file.
use Rattle.std.specs.Prelude.{ℕ}
use Rattle.descriptor_records.specs.declared.enums.EnumDescriptorProto.{EnumDescriptorProto}
use Rattle.descriptor_records.specs.declared.enums.EnumValueDescriptorProto.{EnumValueDescriptorProto}
use Rattle.descriptor_records.specs.declared.field.FieldDescriptorProto.{FieldDescriptorProto}
use Rattle.descriptor_records.specs.declared.field.OneofDescriptorProto.{OneofDescriptorProto}
use Rattle.descriptor_records.specs.declared.message.DescriptorProto.{DescriptorProto}
use Rattle.descriptor_records.specs.declared.service.MethodDescriptorProto.{MethodDescriptorProto}
use Rattle.descriptor_records.specs.declared.service.ServiceDescriptorProto.{ServiceDescriptorProto}
use Rattle.reflect_tables.specs.Types.{PoolType, type_at, type_of_field, enum_at, extension_at, service_at}
use Rattle.reflect_pool.specs.AtPaths.{IsRecordAt, message_name, field_name, oneof_name, enum_name, value_name, service_name, method_name}
use Rattle.reflect_pool.specs.Parts.{type_of_oneof, type_of_value, type_of_method}
use Rattle.reflect_pool.specs.Records.{message_along, field_along, oneof_along, enum_along, value_along, extension_along, service_along, method_along}

abbrev pub IsMessageOf : PoolType → ℕ → DescriptorProto → Type 0
IsMessageOf p i m = IsRecordAt message_along message_name p (type_at p i).file
    (type_at p i).path (type_at p i).name m

abbrev pub IsFieldOf : PoolType → ℕ → ℕ → FieldDescriptorProto → Type 0
IsFieldOf p i k f = IsRecordAt field_along field_name p (type_at p i).file
    (type_of_field p i k).path (type_of_field p i k).name f

abbrev pub IsOneofOf : PoolType → ℕ → ℕ → OneofDescriptorProto → Type 0
IsOneofOf p i k o = IsRecordAt oneof_along oneof_name p (type_at p i).file
    (type_of_oneof p i k).path (type_of_oneof p i k).name o

abbrev pub IsEnumOf : PoolType → ℕ → EnumDescriptorProto → Type 0
IsEnumOf p i e = IsRecordAt enum_along enum_name p (enum_at p i).file
    (enum_at p i).path (enum_at p i).name e

abbrev pub IsValueOf : PoolType → ℕ → ℕ → EnumValueDescriptorProto → Type 0
IsValueOf p i k v = IsRecordAt value_along value_name p (enum_at p i).file
    (type_of_value p i k).path (type_of_value p i k).name v

abbrev pub IsExtensionOf : PoolType → ℕ → FieldDescriptorProto → Type 0
IsExtensionOf p i x = IsRecordAt extension_along field_name p (extension_at p i).file
    (extension_at p i).field.path (extension_at p i).field.name x

abbrev pub IsServiceOf : PoolType → ℕ → ServiceDescriptorProto → Type 0
IsServiceOf p i s = IsRecordAt service_along service_name p (service_at p i).file
    (service_at p i).path (service_at p i).name s

abbrev pub IsMethodOf : PoolType → ℕ → ℕ → MethodDescriptorProto → Type 0
IsMethodOf p i k m = IsRecordAt method_along method_name p (service_at p i).file
    (type_of_method p i k).path (type_of_method p i k).name m
