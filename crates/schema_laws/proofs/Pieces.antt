-- Bytes of a whole are bytes of its pieces: of what is joined, of payloads, of repeated records.
-- And the pieces that each record is written in.
use Rattle.std.proofs.Common.{◌-◌, ℕ, zero, suc, List, [], ◌∷◌, length, map, get_or}
use Rattle.std.specs.List.{AllByRecursion, concat}
use Rattle.descriptor_records.specs.declared.enums.EnumDescriptorProto.{EnumDescriptorProto}
use Rattle.descriptor_records.specs.declared.enums.EnumValueDescriptorProto.{EnumValueDescriptorProto}
use Rattle.descriptor_records.specs.declared.field.FieldDescriptorProto.{FieldDescriptorProto}
use Rattle.descriptor_records.specs.declared.field.OneofDescriptorProto.{OneofDescriptorProto}
use Rattle.descriptor_records.specs.declared.file.FileDescriptorProto.{FileDescriptorProto}
use Rattle.descriptor_records.specs.declared.message.DescriptorProto.{DescriptorProto}
use Rattle.descriptor_records.specs.declared.message.DescriptorProto.TheOpen.{DescriptorProto-F}
use Rattle.descriptor_records.specs.declared.message.ExtensionRange.{ExtensionRange}
use Rattle.descriptor_records.specs.declared.service.MethodDescriptorProto.{MethodDescriptorProto}
use Rattle.descriptor_records.specs.declared.service.ServiceDescriptorProto.{ServiceDescriptorProto}
use Rattle.reflect_codec.specs.Fields.{bool_field, int32_field, int32s_field, options_field, payload_field, record_field, records_field, text_field, texts_field}
use Rattle.reflect_codec.specs.Written.{enum_bytes, enum_range_bytes, enum_value_bytes, extension_range_bytes, field_bytes, message_bytes, method_bytes, oneof_bytes, reserved_range_bytes, service_bytes, source_info_bytes}
use Rattle.reflect_wire.specs.declared.wire_key.WireType.TheVariants.{LengthDelimited}
use Rattle.reflect_wire.specs.Encoding.{delimited_bytes, key_bytes, varint_bytes}
use Rattle.reflect_wire.specs.Records.{key_of}
use Rattle.reflect_wire.specs.Written.{AreBytes}
use Rattle.codec_laws.specs.Plain.{IsInside}
use Rattle.message_view.proofs.Plain.{back_bytes, front_bytes}

-- ---- bytes of a whole

-- the bytes of the piece at a place
pub piece_held : (xss : List (List ℕ)) (k : ℕ) → AreBytes (concat xss) → AreBytes (get_or xss k [])
piece_held [] k all = tt
piece_held (xs ∷ xss) zero all = front_bytes xs (concat xss) all
piece_held (xs ∷ xss) (suc k) all = piece_held xss k (back_bytes xs (concat xss) all)

pub payload_held : (n : ℕ) (payload : List ℕ) → AreBytes (payload_field n payload) → AreBytes payload
payload_held n payload all = back_bytes (varint_bytes (length payload)) payload
    (back_bytes (key_bytes (key_of n LengthDelimited)) (delimited_bytes payload) all)

-- what is so of each record inside, and of its bytes, gives something of its content
pub each_stored : {R C : Type 0} (view : R → C) (bytes : R → List ℕ) (P Q : ℕ → C → Type 0)
    (n levels : ℕ) → ((l : ℕ) (x : R) → P l (view x) → AreBytes (bytes x) → Q l (view x))
    → (xs : List R) → AllByRecursion (IsInside P levels) (map view xs)
    → AreBytes (records_field bytes n xs) → AllByRecursion (IsInside Q levels) (map view xs)
each_stored view bytes P Q n levels give [] plain all = tt
each_stored view bytes P Q n levels give (x ∷ xs) plain all =
    let here = payload_held n (bytes x) (front_bytes (payload_field n (bytes x))
    (records_field bytes n xs) all) in (
      (plain.0.0, give (levels - 1) x plain.0.1 here),
      each_stored view bytes P Q n levels give xs plain.1
          (back_bytes (payload_field n (bytes x)) (records_field bytes n xs) all),
    )

-- ---- the pieces that records are written in, one for each field

abbrev pub field_pieces : FieldDescriptorProto → List (List ℕ)
field_pieces f =
    text_field 1 f.name ∷ text_field 2 f.extendee ∷ int32_field 3 f.number ∷ int32_field 4 f.label
    ∷ int32_field 5 f.field_type ∷ text_field 6 f.type_name ∷ text_field 7 f.default_value
    ∷ options_field 8 f.options ∷ int32_field 9 f.oneof_index ∷ text_field 10 f.json_name
    ∷ bool_field 17 f.proto3_optional ∷ []

abbrev pub oneof_pieces : OneofDescriptorProto → List (List ℕ)
oneof_pieces o = text_field 1 o.name ∷ options_field 2 o.options ∷ []

abbrev pub enum_value_pieces : EnumValueDescriptorProto → List (List ℕ)
enum_value_pieces v = text_field 1 v.name ∷ int32_field 2 v.number ∷ options_field 3 v.options ∷ []

abbrev pub enum_pieces : EnumDescriptorProto → List (List ℕ)
enum_pieces e =
    text_field 1 e.name ∷ records_field enum_value_bytes 2 e.value.items ∷ options_field 3 e.options
    ∷ records_field enum_range_bytes 4 e.reserved_range.items ∷ texts_field 5 e.reserved_name.items
    ∷ []

abbrev pub method_pieces : MethodDescriptorProto → List (List ℕ)
method_pieces m =
    text_field 1 m.name ∷ text_field 2 m.input_type ∷ text_field 3 m.output_type
    ∷ options_field 4 m.options ∷ bool_field 5 m.client_streaming ∷ bool_field 6 m.server_streaming
    ∷ []

abbrev pub service_pieces : ServiceDescriptorProto → List (List ℕ)
service_pieces s =
    text_field 1 s.name ∷ records_field method_bytes 2 s.method.items ∷ options_field 3 s.options
    ∷ []

abbrev pub extension_range_pieces : ExtensionRange → List (List ℕ)
extension_range_pieces r =
    int32_field 1 r.start ∷ int32_field 2 r.end ∷ options_field 3 r.options ∷ []

abbrev pub file_pieces : FileDescriptorProto → List (List ℕ)
file_pieces f =
    text_field 1 f.name ∷ text_field 2 f.package ∷ texts_field 3 f.dependency.items
    ∷ records_field message_bytes 4 f.message_type.items
    ∷ records_field enum_bytes 5 f.enum_type.items ∷ records_field service_bytes 6 f.service.items
    ∷ records_field field_bytes 7 f.extension.items ∷ options_field 8 f.options
    ∷ record_field source_info_bytes 9 f.source_code_info
    ∷ int32s_field 10 f.public_dependency.items ∷ int32s_field 11 f.weak_dependency.items
    ∷ text_field 12 f.syntax ∷ []

-- of one level
abbrev pub message_pieces : DescriptorProto-F DescriptorProto → List (List ℕ)
message_pieces m =
    text_field 1 m.name ∷ records_field field_bytes 2 m.field.items
    ∷ records_field message_bytes 3 m.nested_type.items
    ∷ records_field enum_bytes 4 m.enum_type.items
    ∷ records_field extension_range_bytes 5 m.extension_range.items
    ∷ records_field field_bytes 6 m.extension.items ∷ options_field 7 m.options
    ∷ records_field oneof_bytes 8 m.oneof_decl.items
    ∷ records_field reserved_range_bytes 9 m.reserved_range.items
    ∷ texts_field 10 m.reserved_name.items ∷ []
