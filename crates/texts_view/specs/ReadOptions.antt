-- What linking reads of options: whether a list is packed, whether an enum's values may have equal
-- numbers, and whether a message type is that of a map's entries (descriptor.proto; protobuf.dev,
-- "Encoding", "Language Guide (proto 3)").
use Rattle.std.specs.Prelude.{[], None, map, option_map}
use Rattle.descriptor_records.specs.Content.{OptionsContent, FieldContent, OneofContent, EnumValueContent, EnumContent, MethodContent, ServiceContent, ExtensionRangeContent, MessageContent, message, MessageContents, no_messages, more_messages, FileContent}

-- options without all else
abbrev pub read_options : OptionsContent → OptionsContent
read_options o = record o { encoded = []; uninterpreted_option = [] }

abbrev pub read_field : FieldContent → FieldContent
read_field f = record f { options = option_map read_options f.options }

abbrev pub read_oneof : OneofContent → OneofContent
read_oneof o = record o { options = option_map read_options o.options }

abbrev pub read_value : EnumValueContent → EnumValueContent
read_value v = record v { options = option_map read_options v.options }

abbrev pub read_enum : EnumContent → EnumContent
read_enum e = record e {
  value = map read_value e.value;
  options = option_map read_options e.options;
}

abbrev pub read_method : MethodContent → MethodContent
read_method m = record m { options = option_map read_options m.options }

abbrev pub read_service : ServiceContent → ServiceContent
read_service s = record s {
  method = map read_method s.method;
  options = option_map read_options s.options;
}

abbrev pub read_range : ExtensionRangeContent → ExtensionRangeContent
read_range r = record r { options = option_map read_options r.options }

abbrev mutual
  pub read_message : MessageContent → MessageContent
  read_message (message name field extension nested enums ranges oneofs options reserved names) =
      message name (map read_field field) (map read_field extension) (read_messages nested)
      (map read_enum enums) (map read_range ranges) (map read_oneof oneofs)
      (option_map read_options options) reserved names

  pub read_messages : MessageContents → MessageContents
  read_messages no_messages = no_messages
  read_messages (more_messages m ms) = more_messages (read_message m) (read_messages ms)

-- a file with what linking reads of options alone, and without locations
abbrev pub read_file : FileContent → FileContent
read_file f = record f {
  message_type = map read_message f.message_type;
  enum_type = map read_enum f.enum_type;
  service = map read_service f.service;
  extension = map read_field f.extension;
  options = option_map read_options f.options;
  source_code_info = None;
}
