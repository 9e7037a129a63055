-- The one form in which descriptor records are written: present fields by ascending number.
use Rattle.std.specs.Prelude.{ℕ, List, [], ◌∷◌}
use Rattle.std.specs.List.{concat}
use Rattle.descriptor_records.specs.declared.enums.EnumDescriptorProto.{EnumDescriptorProto}
use Rattle.descriptor_records.specs.declared.enums.EnumReservedRange.{EnumReservedRange}
use Rattle.descriptor_records.specs.declared.enums.EnumValueDescriptorProto.{EnumValueDescriptorProto}
use Rattle.descriptor_records.specs.declared.field.FieldDescriptorProto.{FieldDescriptorProto}
use Rattle.descriptor_records.specs.declared.field.OneofDescriptorProto.{OneofDescriptorProto}
use Rattle.descriptor_records.specs.declared.file.FileDescriptorProto.{FileDescriptorProto}
use Rattle.descriptor_records.specs.declared.file.FileDescriptorSet.{FileDescriptorSet}
use Rattle.descriptor_records.specs.declared.message.DescriptorProto.{DescriptorProto}
use Rattle.descriptor_records.specs.declared.message.DescriptorProto.TheOpen.{DescriptorProto-F}
use Rattle.descriptor_records.specs.declared.message.DescriptorProto.TheFolds.{fold-DescriptorProto}
use Rattle.descriptor_records.specs.declared.message.ExtensionRange.{ExtensionRange}
use Rattle.descriptor_records.specs.declared.message.ReservedRange.{ReservedRange}
use Rattle.descriptor_records.specs.declared.service.MethodDescriptorProto.{MethodDescriptorProto}
use Rattle.descriptor_records.specs.declared.service.ServiceDescriptorProto.{ServiceDescriptorProto}
use Rattle.descriptor_records.specs.declared.source_info.Location.{Location}
use Rattle.descriptor_records.specs.declared.source_info.SourceCodeInfo.{SourceCodeInfo}
use Rattle.reflect_codec.specs.Fields.{text_field, texts_field, int32_field, int32s_field, packed_field, bool_field, record_field, records_field, options_field}

abbrev pub field_bytes : FieldDescriptorProto → List ℕ
field_bytes f = concat (
    text_field 1 f.name ∷ text_field 2 f.extendee ∷ int32_field 3 f.number ∷ int32_field 4 f.label
    ∷ int32_field 5 f.field_type ∷ text_field 6 f.type_name
    ∷ text_field 7 f.default_value ∷ options_field 8 f.options ∷ int32_field 9 f.oneof_index
    ∷ text_field 10 f.json_name ∷ bool_field 17 f.proto3_optional ∷ [])

abbrev pub oneof_bytes : OneofDescriptorProto → List ℕ
oneof_bytes o = concat (text_field 1 o.name ∷ options_field 2 o.options ∷ [])

abbrev pub enum_value_bytes : EnumValueDescriptorProto → List ℕ
enum_value_bytes v = concat (text_field 1 v.name ∷ int32_field 2 v.number
    ∷ options_field 3 v.options ∷ [])

abbrev pub enum_range_bytes : EnumReservedRange → List ℕ
enum_range_bytes r = concat (int32_field 1 r.start ∷ int32_field 2 r.end ∷ [])

abbrev pub enum_bytes : EnumDescriptorProto → List ℕ
enum_bytes e = concat (
    text_field 1 e.name ∷ records_field enum_value_bytes 2 e.value.items ∷ options_field 3 e.options
    ∷ records_field enum_range_bytes 4 e.reserved_range.items
    ∷ texts_field 5 e.reserved_name.items ∷ [])

abbrev pub method_bytes : MethodDescriptorProto → List ℕ
method_bytes m = concat (
    text_field 1 m.name ∷ text_field 2 m.input_type ∷ text_field 3 m.output_type
    ∷ options_field 4 m.options ∷ bool_field 5 m.client_streaming
    ∷ bool_field 6 m.server_streaming ∷ [])

abbrev pub service_bytes : ServiceDescriptorProto → List ℕ
service_bytes s = concat (text_field 1 s.name ∷ records_field method_bytes 2 s.method.items
    ∷ options_field 3 s.options ∷ [])

abbrev pub location_bytes : Location → List ℕ
location_bytes l = concat (
    packed_field 1 l.path.items ∷ packed_field 2 l.span.items ∷ text_field 3 l.leading_comments
    ∷ text_field 4 l.trailing_comments ∷ texts_field 6 l.leading_detached_comments.items ∷ [])

abbrev pub source_info_bytes : SourceCodeInfo → List ℕ
source_info_bytes s = concat (records_field location_bytes 1 s.location.items ∷ [])

abbrev pub extension_range_bytes : ExtensionRange → List ℕ
extension_range_bytes r = concat
    (int32_field 1 r.start ∷ int32_field 2 r.end ∷ options_field 3 r.options ∷ [])

abbrev pub reserved_range_bytes : ReservedRange → List ℕ
reserved_range_bytes r = concat (int32_field 1 r.start ∷ int32_field 2 r.end ∷ [])

-- a message type whose nested types are written already
abbrev pub message_step : DescriptorProto-F (List ℕ) → List ℕ
message_step m = concat (
    text_field 1 m.name ∷ records_field field_bytes 2 m.field.items
    ∷ records_field (λ bytes. bytes) 3 m.nested_type.items
    ∷ records_field enum_bytes 4 m.enum_type.items
    ∷ records_field extension_range_bytes 5 m.extension_range.items
    ∷ records_field field_bytes 6 m.extension.items ∷ options_field 7 m.options
    ∷ records_field oneof_bytes 8 m.oneof_decl.items
    ∷ records_field reserved_range_bytes 9 m.reserved_range.items
    ∷ texts_field 10 m.reserved_name.items ∷ [])

abbrev pub message_bytes : DescriptorProto → List ℕ
message_bytes = fold-DescriptorProto (List ℕ) message_step

abbrev pub file_bytes : FileDescriptorProto → List ℕ
file_bytes f = concat (
    text_field 1 f.name ∷ text_field 2 f.package ∷ texts_field 3 f.dependency.items
    ∷ records_field message_bytes 4 f.message_type.items
    ∷ records_field enum_bytes 5 f.enum_type.items
    ∷ records_field service_bytes 6 f.service.items ∷ records_field field_bytes 7 f.extension.items
    ∷ options_field 8 f.options ∷ record_field source_info_bytes 9 f.source_code_info
    ∷ int32s_field 10 f.public_dependency.items ∷ int32s_field 11 f.weak_dependency.items
    ∷ text_field 12 f.syntax ∷ [])

abbrev pub set_bytes : FileDescriptorSet → List ℕ
set_bytes s = concat (records_field file_bytes 1 s.file.items ∷ [])
