-- What the records hold in which nothing was put yet.
use Rattle.std.specs.Prelude.{[], None}
use Rattle.descriptor_records.specs.Content.{OptionContent, OptionsContent, FieldContent, EnumContent, MessageContent, message, no_messages, FileContent}

abbrev pub empty_option : OptionContent
empty_option = record {
  name = [];
  identifier_value = None;
  positive_int_value = None;
  negative_int_value = None;
  double_value = None;
  string_value = None;
  aggregate_value = None;
}

abbrev pub empty_options : OptionsContent
empty_options = record {
  encoded = [];
  packed = None;
  allow_alias = None;
  map_entry = None;
  uninterpreted_option = [];
}

abbrev pub empty_field : FieldContent
empty_field = record {
  name = None;
  number = None;
  label = None;
  field_type = None;
  type_name = None;
  extendee = None;
  default_value = None;
  oneof_index = None;
  json_name = None;
  options = None;
  proto3_optional = None;
}

abbrev pub empty_enum : EnumContent
empty_enum = record {
  name = None;
  value = [];
  options = None;
  reserved_range = [];
  reserved_name = [];
}

abbrev pub empty_message : MessageContent
empty_message = message None [] [] no_messages [] [] [] None [] []

abbrev pub empty_file : FileContent
empty_file = record {
  name = None;
  package_name = None;
  dependency = [];
  public_dependency = [];
  weak_dependency = [];
  message_type = [];
  enum_type = [];
  service = [];
  extension = [];
  options = None;
  source_code_info = None;
  syntax_name = None;
}
