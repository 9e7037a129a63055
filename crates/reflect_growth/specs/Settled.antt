-- What stays of files whose options are settled: all that their records say, but for options and
-- the paths of locations.
use Rattle.std.specs.Prelude.{[], map, option_map, None}
use Rattle.descriptor_records.specs.Content.{FieldContent, OneofContent, EnumValueContent, EnumContent, MethodContent, ServiceContent, LocationContent, ExtensionRangeContent, MessageContent, message, MessageContents, no_messages, more_messages, FileContent, file_view}
use Rattle.descriptor_records.specs.declared.file.FileDescriptorProto.{FileDescriptorProto}
use Rattle.reflect_tables.specs.Views.{record_of}
use Rattle.reflect_tables.specs.declared.stored.StoredFile.{StoredFile}

abbrev pub bare_field : FieldContent → FieldContent
bare_field f = record f { options = None }

abbrev pub bare_oneof : OneofContent → OneofContent
bare_oneof o = record o { options = None }

abbrev pub bare_value : EnumValueContent → EnumValueContent
bare_value v = record v { options = None }

abbrev pub bare_enum : EnumContent → EnumContent
bare_enum e = record e { value = map bare_value e.value; options = None }

abbrev pub bare_method : MethodContent → MethodContent
bare_method m = record m { options = None }

abbrev pub bare_service : ServiceContent → ServiceContent
bare_service s = record s { method = map bare_method s.method; options = None }

abbrev pub bare_range : ExtensionRangeContent → ExtensionRangeContent
bare_range r = record r { options = None }

abbrev pub bare_location : LocationContent → LocationContent
bare_location l = record l { path = [] }

abbrev mutual
  pub bare_message : MessageContent → MessageContent
  bare_message (message name field extension nested enums ranges oneofs options reserved names) =
      message name (map bare_field field) (map bare_field extension) (bare_messages nested)
      (map bare_enum enums) (map bare_range ranges) (map bare_oneof oneofs) None reserved names

  pub bare_messages : MessageContents → MessageContents
  bare_messages no_messages = no_messages
  bare_messages (more_messages m ms) = more_messages (bare_message m) (bare_messages ms)

-- a file's content without its options, those of what it declares, and the paths of its locations
abbrev pub bare_file : FileContent → FileContent
bare_file f = record f {
  message_type = map bare_message f.message_type;
  enum_type = map bare_enum f.enum_type;
  service = map bare_service f.service;
  extension = map bare_field f.extension;
  options = None;
  source_code_info = option_map (map bare_location) f.source_code_info;
}

-- that of a file's record
abbrev pub bare_of : FileDescriptorProto → FileContent
bare_of f = bare_file (file_view f)

-- the content of a file's record
abbrev pub stored_view : StoredFile → FileContent
stored_view f = file_view (record_of f)
