-- What is written of records is told by their content: so records of one content are written in the
-- same bytes.
use Rattle.std.proofs.Common.{◌≡◌, ◌∙◌, ◌++◌, ℕ, List, [], ◌∷◌, map, Option, Some, None, String, string_bytes, refl, sym, ap, subst}
use Rattle.std.specs.declared.alloc.Global.{Global}
use Rattle.std.specs.List.{concat}
use Rattle.std.specs.Option.{option_map}
use Rattle.descriptor_records.specs.Content.{Text, OptionsContent, FieldContent, OneofContent, EnumValueContent, EnumContent, MethodContent, ServiceContent, LocationContent, ExtensionRangeContent, MessageContent, message, MessageContents, no_messages, more_messages, FileContent, enum_value_view, enum_view, extension_range_view, field_view, file_view, location_view, messages_of, message_view, method_view, oneof_view, options_view, service_view, source_info_view, text_view}
use Rattle.descriptor_records.specs.declared.enums.EnumDescriptorProto.{EnumDescriptorProto}
use Rattle.descriptor_records.specs.declared.enums.EnumValueDescriptorProto.{EnumValueDescriptorProto}
use Rattle.descriptor_records.specs.declared.field.FieldDescriptorProto.{FieldDescriptorProto}
use Rattle.descriptor_records.specs.declared.field.OneofDescriptorProto.{OneofDescriptorProto}
use Rattle.descriptor_records.specs.declared.file.FileDescriptorProto.{FileDescriptorProto}
use Rattle.descriptor_records.specs.declared.message.DescriptorProto.{DescriptorProto}
use Rattle.descriptor_records.specs.declared.message.DescriptorProto.TheFolds.{ind-DescriptorProto, fold-roll-DescriptorProto}
use Rattle.descriptor_records.specs.declared.message.DescriptorProto.TheOpen.{DescriptorProto-F}
use Rattle.descriptor_records.specs.declared.message.ExtensionRange.{ExtensionRange}
use Rattle.descriptor_records.specs.declared.options.Options.{Options}
use Rattle.descriptor_records.specs.declared.service.MethodDescriptorProto.{MethodDescriptorProto}
use Rattle.descriptor_records.specs.declared.service.ServiceDescriptorProto.{ServiceDescriptorProto}
use Rattle.descriptor_records.specs.declared.source_info.Location.{Location}
use Rattle.descriptor_records.specs.declared.source_info.SourceCodeInfo.{SourceCodeInfo}
use Rattle.descriptor_records.proofs.Messages.{level_view, message_view-roll}
use Rattle.reflect_bytes.specs.Written.{pool_bytes}
use Rattle.reflect_codec.specs.Fields.{bool_field, int32_field, int32s_field, options_field, packed_field, payload_field, record_field, records_field, text_field, texts_field}
use Rattle.reflect_codec.specs.Written.{enum_bytes, enum_range_bytes, enum_value_bytes, extension_range_bytes, field_bytes, file_bytes, location_bytes, message_bytes, message_step, method_bytes, oneof_bytes, reserved_range_bytes, service_bytes, source_info_bytes}
use Rattle.reflect_tables.specs.Types.{PoolType}

-- ---- single fields

abbrev text_written : ℕ → Option Text → List ℕ
text_written n None = []
text_written n (Some t) = payload_field n t

text_same : (n : ℕ) (t : Option (String Global)) → text_field n t ≡ text_written n (text_view t)
text_same n None = refl
text_same n (Some t) = refl

abbrev options_written : ℕ → Option OptionsContent → List ℕ
options_written n None = []
options_written n (Some o) = payload_field n o.encoded

options_same : (n : ℕ) (o : Option Options)
    → options_field n o ≡ options_written n (option_map options_view o)
options_same n None = refl
options_same n (Some o) = refl

-- each of a list is written as its content is
each_same : {R C : Type 0} (view : R → C) (bytes : R → List ℕ) (written : C → List ℕ)
    → ((r : R) → bytes r ≡ written (view r)) → (n : ℕ) (rs : List R)
    → records_field bytes n rs ≡ records_field written n (map view rs)
each_same view bytes written same n [] = refl
each_same view bytes written same n (r ∷ rs) =
    λ i. payload_field n (same r i) ++ each_same view bytes written same n rs i

abbrev texts_written : ℕ → List Text → List ℕ
texts_written n ts = records_field (λ t. t) n ts

texts_same : (n : ℕ) (ts : List (String Global))
    → texts_field n ts ≡ texts_written n (map string_bytes ts)
texts_same n ts = each_same string_bytes string_bytes (λ t. t) (λ t. refl) n ts

-- ---- what is declared

abbrev field_written : FieldContent → List ℕ
field_written f = concat (
    text_written 1 f.name ∷ text_written 2 f.extendee ∷ int32_field 3 f.number
    ∷ int32_field 4 f.label ∷ int32_field 5 f.field_type ∷ text_written 6 f.type_name
    ∷ text_written 7 f.default_value ∷ options_written 8 f.options ∷ int32_field 9 f.oneof_index
    ∷ text_written 10 f.json_name ∷ bool_field 17 f.proto3_optional ∷ [])

field_same : (f : FieldDescriptorProto) → field_bytes f ≡ field_written (field_view f)
field_same f =
    let name = text_same 1 f.name in
    let extendee = text_same 2 f.extendee in
    let type_name = text_same 6 f.type_name in
    let default = text_same 7 f.default_value in
    let options = options_same 8 f.options in
    let json_name = text_same 10 f.json_name in
    λ i. concat (
    name i ∷ extendee i ∷ int32_field 3 f.number ∷ int32_field 4 f.label
    ∷ int32_field 5 f.field_type ∷ type_name i ∷ default i ∷ options i
    ∷ int32_field 9 f.oneof_index ∷ json_name i ∷ bool_field 17 f.proto3_optional ∷ [])

abbrev oneof_written : OneofContent → List ℕ
oneof_written o = concat (text_written 1 o.name ∷ options_written 2 o.options ∷ [])

oneof_same : (o : OneofDescriptorProto) → oneof_bytes o ≡ oneof_written (oneof_view o)
oneof_same o =
    let name = text_same 1 o.name in
    let options = options_same 2 o.options in
    λ i. concat (name i ∷ options i ∷ [])

abbrev value_written : EnumValueContent → List ℕ
value_written v = concat (text_written 1 v.name ∷ int32_field 2 v.number
    ∷ options_written 3 v.options ∷ [])

value_same : (v : EnumValueDescriptorProto) → enum_value_bytes v ≡ value_written (enum_value_view v)
value_same v =
    let name = text_same 1 v.name in
    let options = options_same 3 v.options in
    λ i. concat (name i ∷ int32_field 2 v.number ∷ options i ∷ [])

abbrev enum_written : EnumContent → List ℕ
enum_written e = concat (
    text_written 1 e.name ∷ records_field value_written 2 e.value ∷ options_written 3 e.options
    ∷ records_field enum_range_bytes 4 e.reserved_range ∷ texts_written 5 e.reserved_name ∷ [])

enum_same : (e : EnumDescriptorProto) → enum_bytes e ≡ enum_written (enum_view e)
enum_same e =
    let name = text_same 1 e.name in
    let values = each_same enum_value_view enum_value_bytes value_written value_same 2 e.value.items in
    let options = options_same 3 e.options in
    let names = texts_same 5 e.reserved_name.items in
    λ i. concat (
    name i ∷ values i ∷ options i ∷ records_field enum_range_bytes 4 e.reserved_range.items
    ∷ names i ∷ [])

abbrev method_written : MethodContent → List ℕ
method_written m = concat (
    text_written 1 m.name ∷ text_written 2 m.input_type ∷ text_written 3 m.output_type
    ∷ options_written 4 m.options ∷ bool_field 5 m.client_streaming
    ∷ bool_field 6 m.server_streaming ∷ [])

method_same : (m : MethodDescriptorProto) → method_bytes m ≡ method_written (method_view m)
method_same m =
    let name = text_same 1 m.name in
    let input = text_same 2 m.input_type in
    let output = text_same 3 m.output_type in
    let options = options_same 4 m.options in
    λ i. concat (
    name i ∷ input i ∷ output i ∷ options i ∷ bool_field 5 m.client_streaming
    ∷ bool_field 6 m.server_streaming ∷ [])

abbrev service_written : ServiceContent → List ℕ
service_written s = concat (text_written 1 s.name ∷ records_field method_written 2 s.method
    ∷ options_written 3 s.options ∷ [])

service_same : (s : ServiceDescriptorProto) → service_bytes s ≡ service_written (service_view s)
service_same s =
    let name = text_same 1 s.name in
    let methods = each_same method_view method_bytes method_written method_same 2 s.method.items in
    let options = options_same 3 s.options in
    λ i. concat (name i ∷ methods i ∷ options i ∷ [])

abbrev range_written : ExtensionRangeContent → List ℕ
range_written r = concat
    (int32_field 1 r.start ∷ int32_field 2 r.end ∷ options_written 3 r.options ∷ [])

range_same : (r : ExtensionRange) → extension_range_bytes r ≡ range_written (extension_range_view r)
range_same r =
    let options = options_same 3 r.options in
    λ i. concat (int32_field 1 r.start ∷ int32_field 2 r.end ∷ options i ∷ [])

-- ---- locations

abbrev location_written : LocationContent → List ℕ
location_written l = concat (
    packed_field 1 l.path ∷ packed_field 2 l.span ∷ text_written 3 l.leading_comments
    ∷ text_written 4 l.trailing_comments ∷ texts_written 6 l.leading_detached_comments ∷ [])

location_same : (l : Location) → location_bytes l ≡ location_written (location_view l)
location_same l =
    let leading = text_same 3 l.leading_comments in
    let trailing = text_same 4 l.trailing_comments in
    let detached = texts_same 6 l.leading_detached_comments.items in
    λ i. concat (
    packed_field 1 l.path.items ∷ packed_field 2 l.span.items ∷ leading i ∷ trailing i
    ∷ detached i ∷ [])

abbrev locations_written : ℕ → Option (List LocationContent) → List ℕ
locations_written n None = []
locations_written n (Some ls) = payload_field n (concat (records_field location_written 1 ls ∷ []))

locations_same : (n : ℕ) (s : Option SourceCodeInfo)
    → record_field source_info_bytes n s ≡ locations_written n (option_map source_info_view s)
locations_same n None = refl
locations_same n (Some s) =
    let all = each_same location_view location_bytes location_written location_same 1 s.location.items in
    λ i. payload_field n (concat (all i ∷ []))

-- ---- messages

abbrev mutual
  message_written : MessageContent → List ℕ
  message_written (message name fields extensions nested enums ranges oneofs options reserved names) =
      concat (
      text_written 1 name ∷ records_field field_written 2 fields ∷ messages_written nested
      ∷ records_field enum_written 4 enums ∷ records_field range_written 5 ranges
      ∷ records_field field_written 6 extensions ∷ options_written 7 options
      ∷ records_field oneof_written 8 oneofs ∷ records_field reserved_range_bytes 9 reserved
      ∷ texts_written 10 names ∷ [])

  messages_written : MessageContents → List ℕ
  messages_written no_messages = []
  messages_written (more_messages m ms) = payload_field 3 (message_written m) ++ messages_written ms

abbrev IsSame : DescriptorProto → Type 0
IsSame m = message_bytes m ≡ message_written (message_view m)

nested_same : (ms : List ((m : DescriptorProto) × IsSame m))
    → records_field (λ bytes. bytes) 3 (map message_bytes (map (λ e. e.0) ms))
    ≡ messages_written (messages_of (map message_view (map (λ e. e.0) ms)))
nested_same [] = refl
nested_same (m ∷ ms) = λ i. payload_field 3 (m.1 i) ++ nested_same ms i

level_same : (x : DescriptorProto-F DescriptorProto)
    → records_field (λ bytes. bytes) 3 (map message_bytes x.nested_type.items)
    ≡ messages_written (messages_of (map message_view x.nested_type.items))
    → concat (
    text_field 1 x.name ∷ records_field field_bytes 2 x.field.items
    ∷ records_field (λ bytes. bytes) 3 (map message_bytes x.nested_type.items)
    ∷ records_field enum_bytes 4 x.enum_type.items
    ∷ records_field extension_range_bytes 5 x.extension_range.items
    ∷ records_field field_bytes 6 x.extension.items ∷ options_field 7 x.options
    ∷ records_field oneof_bytes 8 x.oneof_decl.items
    ∷ records_field reserved_range_bytes 9 x.reserved_range.items
    ∷ texts_field 10 x.reserved_name.items ∷ [])
    ≡ message_written (level_view x)
level_same x nested =
    let name = text_same 1 x.name in
    let fields = each_same field_view field_bytes field_written field_same 2 x.field.items in
    let enums = each_same enum_view enum_bytes enum_written enum_same 4 x.enum_type.items in
    let ranges = each_same extension_range_view extension_range_bytes range_written range_same 5 x.extension_range.items in
    let extensions = each_same field_view field_bytes field_written field_same 6 x.extension.items in
    let options = options_same 7 x.options in
    let oneofs = each_same oneof_view oneof_bytes oneof_written oneof_same 8 x.oneof_decl.items in
    let names = texts_same 10 x.reserved_name.items in
    λ i. concat (
    name i ∷ fields i ∷ nested i ∷ enums i ∷ ranges i ∷ extensions i ∷ options i ∷ oneofs i
    ∷ records_field reserved_range_bytes 9 x.reserved_range.items ∷ names i ∷ [])

message_same : (m : DescriptorProto) → message_bytes m ≡ message_written (message_view m)
message_same = ind-DescriptorProto IsSame (λ x y is.
    let nested = subst (λ z. records_field (λ bytes. bytes) 3 (map message_bytes z.nested_type.items)
    ≡ messages_written (messages_of (map message_view z.nested_type.items))) is
    (nested_same y.nested_type.items) in
    fold-roll-DescriptorProto (List ℕ) message_step x ∙ level_same x nested
    ∙ sym (ap message_written (message_view-roll x)))

-- ---- files

abbrev file_written : FileContent → List ℕ
file_written f = concat (
    text_written 1 f.name ∷ text_written 2 f.package_name ∷ texts_written 3 f.dependency
    ∷ records_field message_written 4 f.message_type ∷ records_field enum_written 5 f.enum_type
    ∷ records_field service_written 6 f.service ∷ records_field field_written 7 f.extension
    ∷ options_written 8 f.options ∷ locations_written 9 f.source_code_info
    ∷ int32s_field 10 f.public_dependency ∷ int32s_field 11 f.weak_dependency
    ∷ text_written 12 f.syntax_name ∷ [])

file_same : (f : FileDescriptorProto) → file_bytes f ≡ file_written (file_view f)
file_same f =
    let name = text_same 1 f.name in
    let package_name = text_same 2 f.package in
    let imports = texts_same 3 f.dependency.items in
    let messages = each_same message_view message_bytes message_written message_same 4 f.message_type.items in
    let enums = each_same enum_view enum_bytes enum_written enum_same 5 f.enum_type.items in
    let services = each_same service_view service_bytes service_written service_same 6 f.service.items in
    let extensions = each_same field_view field_bytes field_written field_same 7 f.extension.items in
    let options = options_same 8 f.options in
    let places = locations_same 9 f.source_code_info in
    let syntax_name = text_same 12 f.syntax in
    λ i. concat (
    name i ∷ package_name i ∷ imports i ∷ messages i ∷ enums i ∷ services i ∷ extensions i
    ∷ options i ∷ places i ∷ int32s_field 10 f.public_dependency.items
    ∷ int32s_field 11 f.weak_dependency.items ∷ syntax_name i ∷ [])

files_same : (fs : List FileDescriptorProto)
    → records_field file_bytes 1 fs ≡ records_field file_written 1 (map file_view fs)
files_same fs = each_same file_view file_bytes file_written file_same 1 fs

pub written_alike : (p q : PoolType) → map file_view p.records ≡ map file_view q.records
    → pool_bytes p ≡ pool_bytes q
written_alike p q same =
    files_same p.records ∙ ap (records_field file_written 1) same ∙ sym (files_same q.records)
