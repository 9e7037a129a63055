-- What is written of each kind of record is read as that record.
use Rattle.std.proofs.Common.{ℕ, zero, suc, ◌<◌, ◌-◌, ◌^◌, List, [], ◌∷◌, ◌++◌, map, length, Option, Some, None, refl, sym, subst, length-append, arith}
use Rattle.std.specs.List.{AllByRecursion, AllZip}
use Rattle.std.proofs.lemmas.List.{append-nil}
use Rattle.descriptor_records.specs.declared.enums.EnumDescriptorProto.{EnumDescriptorProto}
use Rattle.descriptor_records.specs.declared.enums.EnumReservedRange.{EnumReservedRange}
use Rattle.descriptor_records.specs.declared.enums.EnumValueDescriptorProto.{EnumValueDescriptorProto}
use Rattle.descriptor_records.specs.declared.field.FieldDescriptorProto.{FieldDescriptorProto}
use Rattle.descriptor_records.specs.declared.field.OneofDescriptorProto.{OneofDescriptorProto}
use Rattle.descriptor_records.specs.declared.file.FileDescriptorProto.{FileDescriptorProto}
use Rattle.descriptor_records.specs.declared.file.FileDescriptorSet.{FileDescriptorSet}
use Rattle.descriptor_records.specs.declared.message.DescriptorProto.{DescriptorProto}
use Rattle.descriptor_records.specs.declared.message.DescriptorProto.TheOpen.{DescriptorProto-F}
use Rattle.descriptor_records.specs.declared.message.DescriptorProto.TheViews.{out-DescriptorProto}
use Rattle.descriptor_records.specs.declared.message.ExtensionRange.{ExtensionRange}
use Rattle.descriptor_records.specs.declared.message.ReservedRange.{ReservedRange}
use Rattle.descriptor_records.specs.declared.service.MethodDescriptorProto.{MethodDescriptorProto}
use Rattle.descriptor_records.specs.declared.service.ServiceDescriptorProto.{ServiceDescriptorProto}
use Rattle.descriptor_records.specs.declared.source_info.Location.{Location}
use Rattle.descriptor_records.specs.declared.source_info.SourceCodeInfo.{SourceCodeInfo}
use Rattle.reflect_codec.specs.Fields.{payload_field, record_field, records_field}
use Rattle.reflect_codec.specs.Meaning.{IsEnum, IsEnumRange, IsEnumValue, IsExtensionRange, IsField, IsFile, IsFileBytes, IsLocation, IsMessage, IsMethod, IsOneof, IsReservedRange, IsService, IsSetBytes, IsSourceInfo}
use Rattle.reflect_codec.specs.Reading.{Field, IsRecord, SpellsFields, Value, payload, value_of, values_at}
use Rattle.reflect_codec.specs.Written.{enum_bytes, enum_range_bytes, enum_value_bytes, extension_range_bytes, field_bytes, file_bytes, location_bytes, message_bytes, method_bytes, oneof_bytes, reserved_range_bytes, service_bytes, set_bytes, source_info_bytes}
use Rattle.reflect_codec.specs.declared.options.OptionsOf.TheVariants as of
use Rattle.reflect_codec.proofs.Messages.{message_bytes-out}
use Rattle.codec_laws.specs.Plain.{IfThere, IsInside, IsPlainEnum, IsPlainEnumRange, IsPlainEnumValue, IsPlainExtensionRange, IsPlainField, IsPlainFile, IsPlainLocation, IsPlainMessage, IsPlainMethod, IsPlainOneof, IsPlainReservedRange, IsPlainService, IsPlainSet, IsPlainSourceInfo}
use Rattle.codec_laws.proofs.FieldKinds.{Reads, ReadsInside, bool_at, bool_part, each_payload, inside_short, int32_at, int32_part, int32s_at, int32s_part, merged_at, options_at, options_part, packed_at, packed_part, record_part, records_among, records_at, records_part, text_at, text_part, texts_at, texts_part}
use Rattle.codec_laws.proofs.Parts.{Part, fields, spelled, values, written}

-- each part is no longer than all of them
shorts : (ps : List Part) → length (written ps) < 2 ^ 64 → AllByRecursion (λ (p : Part). length p.bytes < 2 ^ 64) ps
shorts [] h = tt
shorts (p ∷ ps) h =
    let long = length-append p.bytes (written ps) in
    let here : length p.bytes < 2 ^ 64 = omega (arith, h, long) in
    (here, shorts ps (omega (arith, h, long)))

one_short : (n : ℕ) (b more : List ℕ) → length (payload_field n b ++ more) < 2 ^ 64 → length b < 2 ^ 64
one_short n b more h = let long = length-append (payload_field n b) more in omega (arith, h, long, inside_short n b)

more_short : (n : ℕ) (b more : List ℕ) → length (payload_field n b ++ more) < 2 ^ 64 → length more < 2 ^ 64
more_short n b more h = let long = length-append (payload_field n b) more in omega (arith, h, long)

-- what is written of a plain record is read as it, if it is no longer than a length can say
abbrev ReadsPlain : {R : Type 0} → (ℕ → List Field → R → Type 0) → (R → List ℕ) → (ℕ → R → Type 0) → Type 0
ReadsPlain {R} means bytes P = (levels : ℕ) (x : R) → P levels x → length (bytes x) < 2 ^ 64 → Reads means bytes levels x

each_reads : {R : Type 0} (means : ℕ → List Field → R → Type 0) (bytes : R → List ℕ) (n : ℕ) (P : ℕ → R → Type 0) (levels : ℕ) (rs : List R) → AllByRecursion (IsInside P levels) rs
    → length (records_field bytes n rs) < 2 ^ 64 → ReadsPlain means bytes P → AllByRecursion (ReadsInside means bytes levels) rs
each_reads means bytes n P levels [] h short reads = tt
each_reads means bytes n P levels (r ∷ rs) h short reads =
    let more = records_field bytes n rs in
    ((h.0.0, reads (levels - 1) r h.0.1 (one_short n (bytes r) more short)), each_reads means bytes n P levels rs h.1 (more_short n (bytes r) more short) reads)

-- ---- FieldDescriptorProto
abbrev field_parts : (levels : ℕ) (x : FieldDescriptorProto) → IsPlainField levels x → List Part
field_parts levels x plain =
    text_part 1 (omega arith) (omega arith) x.name
    ∷ text_part 2 (omega arith) (omega arith) x.extendee
    ∷ int32_part 3 (omega arith) (omega arith) x.number plain.number
    ∷ int32_part 4 (omega arith) (omega arith) x.label plain.label
    ∷ int32_part 5 (omega arith) (omega arith) x.field_type plain.field_type
    ∷ text_part 6 (omega arith) (omega arith) x.type_name
    ∷ text_part 7 (omega arith) (omega arith) x.default_value
    ∷ options_part 8 (omega arith) (omega arith) x.options
    ∷ int32_part 9 (omega arith) (omega arith) x.oneof_index plain.oneof_index
    ∷ text_part 10 (omega arith) (omega arith) x.json_name
    ∷ bool_part 17 (omega arith) (omega arith) x.proto3_optional ∷ []

field_reads : ReadsPlain IsField field_bytes IsPlainField
field_reads levels x plain short =
    let ps = field_parts levels x plain in
    let gs = fields ps in (
      gs,
      spelled levels ps short,
      record {
        name = text_at 1 gs x.name (values 1 ps);
        extendee = text_at 2 gs x.extendee (values 2 ps);
        number = int32_at 3 gs x.number plain.number (values 3 ps);
        label = int32_at 4 gs x.label plain.label (values 4 ps);
        field_type = int32_at 5 gs x.field_type plain.field_type (values 5 ps);
        type_name = text_at 6 gs x.type_name (values 6 ps);
        default_value = text_at 7 gs x.default_value (values 7 ps);
        options = options_at 8 gs of.Field levels x.options plain.options (values 8 ps);
        oneof_index = int32_at 9 gs x.oneof_index plain.oneof_index (values 9 ps);
        json_name = text_at 10 gs x.json_name (values 10 ps);
        proto3_optional = bool_at 17 gs x.proto3_optional (values 17 ps);
      },
    )

-- ---- OneofDescriptorProto
abbrev oneof_parts : OneofDescriptorProto → List Part
oneof_parts x =
    text_part 1 (omega arith) (omega arith) x.name
    ∷ options_part 2 (omega arith) (omega arith) x.options ∷ []

oneof_reads : ReadsPlain IsOneof oneof_bytes IsPlainOneof
oneof_reads levels x plain short =
    let ps = oneof_parts x in
    let gs = fields ps in (
      gs,
      spelled levels ps short,
      record {
        name = text_at 1 gs x.name (values 1 ps);
        options = options_at 2 gs of.Other levels x.options plain.options (values 2 ps);
      },
    )

-- ---- EnumValueDescriptorProto
abbrev enum_value_parts : (levels : ℕ) (x : EnumValueDescriptorProto) → IsPlainEnumValue levels x → List Part
enum_value_parts levels x plain =
    text_part 1 (omega arith) (omega arith) x.name
    ∷ int32_part 2 (omega arith) (omega arith) x.number plain.number
    ∷ options_part 3 (omega arith) (omega arith) x.options ∷ []

enum_value_reads : ReadsPlain IsEnumValue enum_value_bytes IsPlainEnumValue
enum_value_reads levels x plain short =
    let ps = enum_value_parts levels x plain in
    let gs = fields ps in (
      gs,
      spelled levels ps short,
      record {
        name = text_at 1 gs x.name (values 1 ps);
        number = int32_at 2 gs x.number plain.number (values 2 ps);
        options = options_at 3 gs of.Other levels x.options plain.options (values 3 ps);
      },
    )

-- ---- EnumReservedRange
abbrev enum_range_parts : (levels : ℕ) (x : EnumReservedRange) → IsPlainEnumRange levels x → List Part
enum_range_parts levels x plain =
    int32_part 1 (omega arith) (omega arith) x.start plain.start
    ∷ int32_part 2 (omega arith) (omega arith) x.end plain.end ∷ []

enum_range_reads : ReadsPlain IsEnumRange enum_range_bytes IsPlainEnumRange
enum_range_reads levels x plain short =
    let ps = enum_range_parts levels x plain in
    let gs = fields ps in (
      gs,
      spelled levels ps short,
      record {
        start = int32_at 1 gs x.start plain.start (values 1 ps);
        end = int32_at 2 gs x.end plain.end (values 2 ps);
      },
    )

-- ---- EnumDescriptorProto
abbrev enum_parts : EnumDescriptorProto → List Part
enum_parts x =
    text_part 1 (omega arith) (omega arith) x.name
    ∷ records_part 2 (omega arith) (omega arith) enum_value_bytes x.value.items
    ∷ options_part 3 (omega arith) (omega arith) x.options
    ∷ records_part 4 (omega arith) (omega arith) enum_range_bytes x.reserved_range.items
    ∷ texts_part 5 (omega arith) (omega arith) x.reserved_name.items ∷ []

enum_reads : ReadsPlain IsEnum enum_bytes IsPlainEnum
enum_reads levels x plain short =
    let ps = enum_parts x in
    let gs = fields ps in
    let each = shorts ps short in (
      gs,
      spelled levels ps short,
      record {
        name = text_at 1 gs x.name (values 1 ps);
        value = records_at 2 gs IsEnumValue enum_value_bytes levels x.value
            (each_reads IsEnumValue enum_value_bytes 2 IsPlainEnumValue levels x.value.items plain.value each.1.0 enum_value_reads) (values 2 ps);
        options = options_at 3 gs of.Enum levels x.options plain.options (values 3 ps);
        reserved_range = records_at 4 gs IsEnumRange enum_range_bytes levels x.reserved_range
            (each_reads IsEnumRange enum_range_bytes 4 IsPlainEnumRange levels x.reserved_range.items plain.reserved_range each.1.1.1.0 enum_range_reads) (values 4 ps);
        reserved_name = texts_at 5 gs x.reserved_name (values 5 ps);
      },
    )

-- ---- MethodDescriptorProto
abbrev method_parts : MethodDescriptorProto → List Part
method_parts x =
    text_part 1 (omega arith) (omega arith) x.name
    ∷ text_part 2 (omega arith) (omega arith) x.input_type
    ∷ text_part 3 (omega arith) (omega arith) x.output_type
    ∷ options_part 4 (omega arith) (omega arith) x.options
    ∷ bool_part 5 (omega arith) (omega arith) x.client_streaming
    ∷ bool_part 6 (omega arith) (omega arith) x.server_streaming ∷ []

method_reads : ReadsPlain IsMethod method_bytes IsPlainMethod
method_reads levels x plain short =
    let ps = method_parts x in
    let gs = fields ps in (
      gs,
      spelled levels ps short,
      record {
        name = text_at 1 gs x.name (values 1 ps);
        input_type = text_at 2 gs x.input_type (values 2 ps);
        output_type = text_at 3 gs x.output_type (values 3 ps);
        options = options_at 4 gs of.Other levels x.options plain.options (values 4 ps);
        client_streaming = bool_at 5 gs x.client_streaming (values 5 ps);
        server_streaming = bool_at 6 gs x.server_streaming (values 6 ps);
      },
    )

-- ---- ServiceDescriptorProto
abbrev service_parts : ServiceDescriptorProto → List Part
service_parts x =
    text_part 1 (omega arith) (omega arith) x.name
    ∷ records_part 2 (omega arith) (omega arith) method_bytes x.method.items
    ∷ options_part 3 (omega arith) (omega arith) x.options ∷ []

service_reads : ReadsPlain IsService service_bytes IsPlainService
service_reads levels x plain short =
    let ps = service_parts x in
    let gs = fields ps in
    let each = shorts ps short in (
      gs,
      spelled levels ps short,
      record {
        name = text_at 1 gs x.name (values 1 ps);
        method = records_at 2 gs IsMethod method_bytes levels x.method
            (each_reads IsMethod method_bytes 2 IsPlainMethod levels x.method.items plain.method each.1.0 method_reads) (values 2 ps);
        options = options_at 3 gs of.Other levels x.options plain.options (values 3 ps);
      },
    )

-- ---- Location
abbrev location_parts : Location → List Part
location_parts x =
    packed_part 1 (omega arith) (omega arith) x.path.items
    ∷ packed_part 2 (omega arith) (omega arith) x.span.items
    ∷ text_part 3 (omega arith) (omega arith) x.leading_comments
    ∷ text_part 4 (omega arith) (omega arith) x.trailing_comments
    ∷ texts_part 6 (omega arith) (omega arith) x.leading_detached_comments.items ∷ []

location_reads : ReadsPlain IsLocation location_bytes IsPlainLocation
location_reads levels x plain short =
    let ps = location_parts x in
    let gs = fields ps in (
      gs,
      spelled levels ps short,
      record {
        path = packed_at 1 gs x.path plain.path (values 1 ps);
        span = packed_at 2 gs x.span plain.span (values 2 ps);
        leading_comments = text_at 3 gs x.leading_comments (values 3 ps);
        trailing_comments = text_at 4 gs x.trailing_comments (values 4 ps);
        leading_detached_comments = texts_at 6 gs x.leading_detached_comments (values 6 ps);
      },
    )

-- ---- SourceCodeInfo
abbrev source_info_parts : SourceCodeInfo → List Part
source_info_parts x =
    records_part 1 (omega arith) (omega arith) location_bytes x.location.items ∷ []

source_info_reads : ReadsPlain IsSourceInfo source_info_bytes IsPlainSourceInfo
source_info_reads levels x plain short =
    let ps = source_info_parts x in
    let gs = fields ps in
    let each = shorts ps short in (
      gs,
      spelled levels ps short,
      record {
        location = records_at 1 gs IsLocation location_bytes levels x.location
            (each_reads IsLocation location_bytes 1 IsPlainLocation levels x.location.items plain.location each.0 location_reads) (values 1 ps);
      },
    )

-- ---- ExtensionRange
abbrev extension_range_parts : (levels : ℕ) (x : ExtensionRange) → IsPlainExtensionRange levels x → List Part
extension_range_parts levels x plain =
    int32_part 1 (omega arith) (omega arith) x.start plain.start
    ∷ int32_part 2 (omega arith) (omega arith) x.end plain.end
    ∷ options_part 3 (omega arith) (omega arith) x.options ∷ []

extension_range_reads : ReadsPlain IsExtensionRange extension_range_bytes IsPlainExtensionRange
extension_range_reads levels x plain short =
    let ps = extension_range_parts levels x plain in
    let gs = fields ps in (
      gs,
      spelled levels ps short,
      record {
        start = int32_at 1 gs x.start plain.start (values 1 ps);
        end = int32_at 2 gs x.end plain.end (values 2 ps);
        options = options_at 3 gs of.Other levels x.options plain.options (values 3 ps);
      },
    )

-- ---- ReservedRange
abbrev reserved_range_parts : (levels : ℕ) (x : ReservedRange) → IsPlainReservedRange levels x → List Part
reserved_range_parts levels x plain =
    int32_part 1 (omega arith) (omega arith) x.start plain.start
    ∷ int32_part 2 (omega arith) (omega arith) x.end plain.end ∷ []

reserved_range_reads : ReadsPlain IsReservedRange reserved_range_bytes IsPlainReservedRange
reserved_range_reads levels x plain short =
    let ps = reserved_range_parts levels x plain in
    let gs = fields ps in (
      gs,
      spelled levels ps short,
      record {
        start = int32_at 1 gs x.start plain.start (values 1 ps);
        end = int32_at 2 gs x.end plain.end (values 2 ps);
      },
    )

-- ---- DescriptorProto
abbrev message_parts : DescriptorProto-F DescriptorProto → List Part
message_parts x =
    text_part 1 (omega arith) (omega arith) x.name
    ∷ records_part 2 (omega arith) (omega arith) field_bytes x.field.items
    ∷ records_part 3 (omega arith) (omega arith) message_bytes x.nested_type.items
    ∷ records_part 4 (omega arith) (omega arith) enum_bytes x.enum_type.items
    ∷ records_part 5 (omega arith) (omega arith) extension_range_bytes x.extension_range.items
    ∷ records_part 6 (omega arith) (omega arith) field_bytes x.extension.items
    ∷ options_part 7 (omega arith) (omega arith) x.options
    ∷ records_part 8 (omega arith) (omega arith) oneof_bytes x.oneof_decl.items
    ∷ records_part 9 (omega arith) (omega arith) reserved_range_bytes x.reserved_range.items
    ∷ texts_part 10 (omega arith) (omega arith) x.reserved_name.items ∷ []

messages_zip : (inner : Value → DescriptorProto → Type 0) (n : ℕ) (P : DescriptorProto → Type 0) (ms : List DescriptorProto) → AllByRecursion P ms → length (records_field message_bytes n ms) < 2 ^ 64
    → ((m : DescriptorProto) → P m → length (message_bytes m) < 2 ^ 64 → inner (payload (message_bytes m)) m) → AllZip inner (map value_of (each_payload message_bytes ms ++ [])) ms
messages_zip inner n P [] h short each = tt
messages_zip inner n P (m ∷ ms) h short each =
    let more = records_field message_bytes n ms in
    (each m h.0 (one_short n (message_bytes m) more short), messages_zip inner n P ms h.1 (more_short n (message_bytes m) more short) each)

message_reads : (levels : ℕ) (m : DescriptorProto) → IsPlainMessage levels m → length (message_bytes m) < 2 ^ 64 → IsMessage levels (payload (message_bytes m)) m
message_reads zero m plain short = absurd plain
message_reads (suc levels) m plain short =
    let x = out-DescriptorProto m in
    let ps = message_parts x in
    let gs = fields ps in
    let all : length (written ps) < 2 ^ 64 = subst (λ bs. length bs < 2 ^ 64) (message_bytes-out m) short in
    let each = shorts ps all in
    let spells = subst (λ bs. SpellsFields levels bs gs) (sym (message_bytes-out m)) (spelled levels ps all) in (
      gs,
      (message_bytes m, (omega arith, refl), spells),
      record {
        name = text_at 1 gs x.name (values 1 ps);
        field = records_at 2 gs IsField field_bytes levels x.field
            (each_reads IsField field_bytes 2 IsPlainField levels x.field.items plain.field each.1.0 field_reads) (values 2 ps);
        nested_type = subst (λ vs. AllZip (IsMessage levels) vs x.nested_type.items) (sym (values 3 ps))
            (messages_zip (IsMessage levels) 3 (IsPlainMessage levels) x.nested_type.items plain.nested_type each.1.1.0 (message_reads levels));
        enum_type = records_at 4 gs IsEnum enum_bytes levels x.enum_type
            (each_reads IsEnum enum_bytes 4 IsPlainEnum levels x.enum_type.items plain.enum_type each.1.1.1.0 enum_reads) (values 4 ps);
        extension_range = records_at 5 gs IsExtensionRange extension_range_bytes levels x.extension_range
            (each_reads IsExtensionRange extension_range_bytes 5 IsPlainExtensionRange levels x.extension_range.items plain.extension_range each.1.1.1.1.0
            extension_range_reads) (values 5 ps);
        extension = records_at 6 gs IsField field_bytes levels x.extension
            (each_reads IsField field_bytes 6 IsPlainField levels x.extension.items plain.extension each.1.1.1.1.1.0 field_reads) (values 6 ps);
        options = options_at 7 gs of.Message levels x.options plain.options (values 7 ps);
        oneof_decl = records_at 8 gs IsOneof oneof_bytes levels x.oneof_decl
            (each_reads IsOneof oneof_bytes 8 IsPlainOneof levels x.oneof_decl.items plain.oneof_decl each.1.1.1.1.1.1.1.0 oneof_reads) (values 8 ps);
        reserved_range = records_at 9 gs IsReservedRange reserved_range_bytes levels x.reserved_range
            (each_reads IsReservedRange reserved_range_bytes 9 IsPlainReservedRange levels x.reserved_range.items plain.reserved_range each.1.1.1.1.1.1.1.1.0
            reserved_range_reads) (values 9 ps);
        reserved_name = texts_at 10 gs x.reserved_name (values 10 ps);
      },
    )

-- ---- FileDescriptorProto
abbrev file_parts : (levels : ℕ) (x : FileDescriptorProto) → IsPlainFile levels x → List Part
file_parts levels x plain =
    text_part 1 (omega arith) (omega arith) x.name
    ∷ text_part 2 (omega arith) (omega arith) x.package
    ∷ texts_part 3 (omega arith) (omega arith) x.dependency.items
    ∷ records_part 4 (omega arith) (omega arith) message_bytes x.message_type.items
    ∷ records_part 5 (omega arith) (omega arith) enum_bytes x.enum_type.items
    ∷ records_part 6 (omega arith) (omega arith) service_bytes x.service.items
    ∷ records_part 7 (omega arith) (omega arith) field_bytes x.extension.items
    ∷ options_part 8 (omega arith) (omega arith) x.options
    ∷ record_part 9 (omega arith) (omega arith) source_info_bytes x.source_code_info
    ∷ int32s_part 10 (omega arith) (omega arith) x.public_dependency.items plain.public_dependency
    ∷ int32s_part 11 (omega arith) (omega arith) x.weak_dependency.items plain.weak_dependency
    ∷ text_part 12 (omega arith) (omega arith) x.syntax ∷ []

source_info_there : (levels : ℕ) (o : Option SourceCodeInfo) → IfThere (IsInside IsPlainSourceInfo levels) o → length (record_field source_info_bytes 9 o) < 2 ^ 64
    → IfThere (ReadsInside IsSourceInfo source_info_bytes levels) o
source_info_there levels None plain short = tt
source_info_there levels (Some s) plain short =
    let whole : length (source_info_bytes s) < 2 ^ 64 = omega (arith, short, inside_short 9 (source_info_bytes s)) in
    (plain.0, source_info_reads (levels - 1) s plain.1 whole)

file_reads : ReadsPlain IsFile file_bytes IsPlainFile
file_reads levels x plain short =
    let ps = file_parts levels x plain in
    let gs = fields ps in
    let each = shorts ps short in (
      gs,
      spelled levels ps short,
      record {
        name = text_at 1 gs x.name (values 1 ps);
        package_name = text_at 2 gs x.package (values 2 ps);
        dependency = texts_at 3 gs x.dependency (values 3 ps);
        message_type = subst (λ vs. AllZip (IsMessage levels) vs x.message_type.items) (sym (values 4 ps))
            (messages_zip (IsMessage levels) 4 (IsPlainMessage levels) x.message_type.items plain.message_type each.1.1.1.0 (message_reads levels));
        enum_type = records_at 5 gs IsEnum enum_bytes levels x.enum_type
            (each_reads IsEnum enum_bytes 5 IsPlainEnum levels x.enum_type.items plain.enum_type each.1.1.1.1.0 enum_reads) (values 5 ps);
        service = records_at 6 gs IsService service_bytes levels x.service
            (each_reads IsService service_bytes 6 IsPlainService levels x.service.items plain.service each.1.1.1.1.1.0 service_reads) (values 6 ps);
        extension = records_at 7 gs IsField field_bytes levels x.extension
            (each_reads IsField field_bytes 7 IsPlainField levels x.extension.items plain.extension each.1.1.1.1.1.1.0 field_reads) (values 7 ps);
        options = options_at 8 gs of.Other levels x.options plain.options (values 8 ps);
        source_code_info = merged_at 9 gs IsSourceInfo source_info_bytes levels x.source_code_info
            (source_info_there levels x.source_code_info plain.source_code_info each.1.1.1.1.1.1.1.1.0) (values 9 ps);
        public_dependency = int32s_at 10 gs x.public_dependency plain.public_dependency (values 10 ps);
        weak_dependency = int32s_at 11 gs x.weak_dependency plain.weak_dependency (values 11 ps);
        syntax_name = text_at 12 gs x.syntax (values 12 ps);
      },
    )

pub file_read : (f : FileDescriptorProto) → IsPlainFile 100 f → length (file_bytes f) < 2 ^ 64 → IsFileBytes (file_bytes f) f
file_read f plain short = file_reads 100 f plain short

-- ---- FileDescriptorSet
abbrev files_parts : List FileDescriptorProto → List Part
files_parts xs = records_part 1 (omega arith) (omega arith) file_bytes xs ∷ []

-- files one behind another, as a set has them
files_spelled : (xs : List FileDescriptorProto) → AllByRecursion (IsInside IsPlainFile 100) xs → length (written (files_parts xs)) < 2 ^ 64
    → (gs : List Field) × SpellsFields 100 (written (files_parts xs)) gs × AllZip (IsRecord IsFile 100) (values_at 1 gs) xs
files_spelled xs plain short =
    let ps = files_parts xs in
    let each = shorts ps short in
    (fields ps, spelled 100 ps short, records_among 1 (fields ps) IsFile file_bytes 100 xs (each_reads IsFile file_bytes 1 IsPlainFile 100 xs plain each.0 file_reads) (values 1 ps))

pub set_read : (s : FileDescriptorSet) → IsPlainSet s → length (set_bytes s) < 2 ^ 64 → IsSetBytes (set_bytes s) s
set_read s plain short =
    let r = files_spelled s.file.items plain short in
    (r.0, r.1, record { file = r.2 })

pub files_read : (xs : List FileDescriptorProto) → AllByRecursion (IsInside IsPlainFile 100) xs → length (records_field file_bytes 1 xs) < 2 ^ 64
    → (gs : List Field) × SpellsFields 100 (records_field file_bytes 1 xs) gs × AllZip (IsRecord IsFile 100) (values_at 1 gs) xs
files_read xs plain short =
    let same = append-nil (records_field file_bytes 1 xs) in
    let r = files_spelled xs plain (subst (λ b. length b < 2 ^ 64) (sym same) short) in
    (r.0, subst (λ b. SpellsFields 100 b r.0) same r.1, r.2)
