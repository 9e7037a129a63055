-- What records hold, without where they lie in memory: texts are bytes, vectors are lists.
use Rattle.std.specs.Prelude.{ℕ, ℤ, Bool, List, [], ◌∷◌, map, Option, Some, None, option_map, String, string_bytes}
use Rattle.std.specs.declared.alloc.Global.{Global}
use Rattle.std.specs.declared.vec.Vec.{Vec}
use Rattle.descriptor_records.specs.declared.enums.EnumDescriptorProto.{EnumDescriptorProto}
use Rattle.descriptor_records.specs.declared.enums.EnumReservedRange.{EnumReservedRange}
use Rattle.descriptor_records.specs.declared.enums.EnumValueDescriptorProto.{EnumValueDescriptorProto}
use Rattle.descriptor_records.specs.declared.field.FieldDescriptorProto.{FieldDescriptorProto}
use Rattle.descriptor_records.specs.declared.field.OneofDescriptorProto.{OneofDescriptorProto}
use Rattle.descriptor_records.specs.declared.file.FileDescriptorProto.{FileDescriptorProto}
use Rattle.descriptor_records.specs.declared.file.FileDescriptorSet.{FileDescriptorSet}
use Rattle.descriptor_records.specs.declared.message.DescriptorProto.{DescriptorProto}
use Rattle.descriptor_records.specs.declared.message.DescriptorProto.TheOpen.{DescriptorProto-F}
use Rattle.descriptor_records.specs.declared.message.DescriptorProto.TheFolds.{fold-DescriptorProto}
use Rattle.descriptor_records.specs.declared.message.ExtensionRange.{ExtensionRange}
use Rattle.descriptor_records.specs.declared.message.ReservedRange.{ReservedRange}
use Rattle.descriptor_records.specs.declared.options.DoubleValue.{DoubleValue}
use Rattle.descriptor_records.specs.declared.options.DoubleValue.TheVariants as doubles
use Rattle.descriptor_records.specs.declared.options.NamePart.{NamePart}
use Rattle.descriptor_records.specs.declared.options.Options.{Options}
use Rattle.descriptor_records.specs.declared.options.UninterpretedOption.{UninterpretedOption}
use Rattle.descriptor_records.specs.declared.service.MethodDescriptorProto.{MethodDescriptorProto}
use Rattle.descriptor_records.specs.declared.service.ServiceDescriptorProto.{ServiceDescriptorProto}
use Rattle.descriptor_records.specs.declared.source_info.Location.{Location}
use Rattle.descriptor_records.specs.declared.source_info.SourceCodeInfo.{SourceCodeInfo}

abbrev pub Text : Type 0
Text = List ℕ

abbrev pub text_view : Option (String Global) → Option Text
text_view = option_map string_bytes

-- what a record has of a text that may be missing
abbrev pub text_of : Option (String Global) → Text
text_of None = []
text_of (Some s) = string_bytes s

abbrev pub texts_view : Vec (String Global) Global → List Text
texts_view v = map string_bytes v.items

pub record NameContent : Type 0 where
  pub name_part : Text
  pub is_extension : Bool

abbrev pub name_view : NamePart → NameContent
name_view p = record { name_part = string_bytes p.name_part; is_extension = p.is_extension }

pub data DoubleContent : Type 0 where
  written : Text → DoubleContent
  bits : ℕ → DoubleContent

abbrev pub double_view : DoubleValue → DoubleContent
double_view (doubles.Text t) = written (string_bytes t)
double_view (doubles.Bits n) = bits n

pub record OptionContent : Type 0 where
  pub name : List NameContent
  pub identifier_value : Option Text
  pub positive_int_value : Option ℕ
  pub negative_int_value : Option ℤ
  pub double_value : Option DoubleContent
  pub string_value : Option (List ℕ)
  pub aggregate_value : Option Text

abbrev pub option_view : UninterpretedOption → OptionContent
option_view o = record {
  name = map name_view o.name.items;
  identifier_value = text_view o.identifier_value;
  positive_int_value = o.positive_int_value;
  negative_int_value = o.negative_int_value;
  double_value = option_map double_view o.double_value;
  string_value = option_map (λ (v : Vec ℕ Global). v.items) o.string_value;
  aggregate_value = text_view o.aggregate_value;
}

pub record OptionsContent : Type 0 where
  pub encoded : List ℕ
  pub packed : Option Bool
  pub allow_alias : Option Bool
  pub map_entry : Option Bool
  pub uninterpreted_option : List OptionContent

abbrev pub options_view : Options → OptionsContent
options_view o = record {
  encoded = o.encoded.items;
  packed = o.packed;
  allow_alias = o.allow_alias;
  map_entry = o.map_entry;
  uninterpreted_option = map option_view o.uninterpreted_option.items;
}

pub record FieldContent : Type 0 where
  pub name : Option Text
  pub number : Option ℤ
  pub label : Option ℤ
  pub field_type : Option ℤ
  pub type_name : Option Text
  pub extendee : Option Text
  pub default_value : Option Text
  pub oneof_index : Option ℤ
  pub json_name : Option Text
  pub options : Option OptionsContent
  pub proto3_optional : Option Bool

abbrev pub field_view : FieldDescriptorProto → FieldContent
field_view f = record {
  name = text_view f.name;
  number = f.number;
  label = f.label;
  field_type = f.field_type;
  type_name = text_view f.type_name;
  extendee = text_view f.extendee;
  default_value = text_view f.default_value;
  oneof_index = f.oneof_index;
  json_name = text_view f.json_name;
  options = option_map options_view f.options;
  proto3_optional = f.proto3_optional;
}

pub record OneofContent : Type 0 where
  pub name : Option Text
  pub options : Option OptionsContent

abbrev pub oneof_view : OneofDescriptorProto → OneofContent
oneof_view o = record { name = text_view o.name; options = option_map options_view o.options }

pub record EnumValueContent : Type 0 where
  pub name : Option Text
  pub number : Option ℤ
  pub options : Option OptionsContent

abbrev pub enum_value_view : EnumValueDescriptorProto → EnumValueContent
enum_value_view v = record {
  name = text_view v.name;
  number = v.number;
  options =
      option_map options_view v.options;
}

pub record EnumContent : Type 0 where
  pub name : Option Text
  pub value : List EnumValueContent
  pub options : Option OptionsContent
  pub reserved_range : List EnumReservedRange
  pub reserved_name : List Text

abbrev pub enum_view : EnumDescriptorProto → EnumContent
enum_view e = record {
  name = text_view e.name;
  value = map enum_value_view e.value.items;
  options = option_map options_view e.options;
  reserved_range = e.reserved_range.items;
  reserved_name = texts_view e.reserved_name;
}

pub record MethodContent : Type 0 where
  pub name : Option Text
  pub input_type : Option Text
  pub output_type : Option Text
  pub options : Option OptionsContent
  pub client_streaming : Option Bool
  pub server_streaming : Option Bool

abbrev pub method_view : MethodDescriptorProto → MethodContent
method_view m = record {
  name = text_view m.name;
  input_type = text_view m.input_type;
  output_type = text_view m.output_type;
  options = option_map options_view m.options;
  client_streaming = m.client_streaming;
  server_streaming = m.server_streaming;
}

pub record ServiceContent : Type 0 where
  pub name : Option Text
  pub method : List MethodContent
  pub options : Option OptionsContent

abbrev pub service_view : ServiceDescriptorProto → ServiceContent
service_view s = record {
  name = text_view s.name;
  method = map method_view s.method.items;
  options = option_map options_view s.options;
}

pub record LocationContent : Type 0 where
  pub path : List ℤ
  pub span : List ℤ
  pub leading_comments : Option Text
  pub trailing_comments : Option Text
  pub leading_detached_comments : List Text

abbrev pub location_view : Location → LocationContent
location_view l = record {
  path = l.path.items;
  span = l.span.items;
  leading_comments = text_view l.leading_comments;
  trailing_comments = text_view l.trailing_comments;
  leading_detached_comments = texts_view l.leading_detached_comments;
}

abbrev pub source_info_view : SourceCodeInfo → List LocationContent
source_info_view s = map location_view s.location.items

pub record ExtensionRangeContent : Type 0 where
  pub start : Option ℤ
  pub end : Option ℤ
  pub options : Option OptionsContent

abbrev pub extension_range_view : ExtensionRange → ExtensionRangeContent
extension_range_view r = record
    { start = r.start; end = r.end; options = option_map options_view r.options }

mutual
  pub data MessageContent : Type 0 where
    message : (name : Option Text) (field extension : List FieldContent)
        (nested_type : MessageContents) (enum_type : List EnumContent)
        (extension_range : List ExtensionRangeContent)
        (oneof_decl : List OneofContent) (options : Option OptionsContent)
        (reserved_range : List ReservedRange) (reserved_name : List Text) → MessageContent

  pub data MessageContents : Type 0 where
    no_messages : MessageContents
    more_messages : MessageContent → MessageContents → MessageContents

abbrev pub messages_of : List MessageContent → MessageContents
messages_of [] = no_messages
messages_of (m ∷ ms) = more_messages m (messages_of ms)

abbrev pub message_step : DescriptorProto-F MessageContent → MessageContent
message_step m = message (text_view m.name) (map field_view m.field.items)
    (map field_view m.extension.items) (messages_of m.nested_type.items)
    (map enum_view m.enum_type.items)
    (map extension_range_view m.extension_range.items) (map oneof_view m.oneof_decl.items)
    (option_map options_view m.options) m.reserved_range.items (texts_view m.reserved_name)

abbrev pub message_view : DescriptorProto → MessageContent
message_view = fold-DescriptorProto MessageContent message_step

pub record FileContent : Type 0 where
  pub name : Option Text
  pub package_name : Option Text
  pub dependency : List Text
  pub public_dependency : List ℤ
  pub weak_dependency : List ℤ
  pub message_type : List MessageContent
  pub enum_type : List EnumContent
  pub service : List ServiceContent
  pub extension : List FieldContent
  pub options : Option OptionsContent
  pub source_code_info : Option (List LocationContent)
  pub syntax_name : Option Text

abbrev pub file_view : FileDescriptorProto → FileContent
file_view f = record {
  name = text_view f.name;
  package_name = text_view f.package;
  dependency = texts_view f.dependency;
  public_dependency = f.public_dependency.items;
  weak_dependency = f.weak_dependency.items;
  message_type = map message_view f.message_type.items;
  enum_type = map enum_view f.enum_type.items;
  service = map service_view f.service.items;
  extension = map field_view f.extension.items;
  options = option_map options_view f.options;
  source_code_info = option_map source_info_view f.source_code_info;
  syntax_name = text_view f.syntax;
}

-- a file without what it tells of lines, columns and comments
abbrev pub unlocated : FileContent → FileContent
unlocated f = record f { source_code_info = None }

abbrev pub set_view : FileDescriptorSet → List FileContent
set_view s = map file_view s.file.items
