-- What the pool's entries stand for.
use Rattle.std.specs.Prelude.{List, ℕ, map, cond, bytes_eq, codes, String, string_bytes, Option, Some, None}
use Rattle.std.specs.declared.alloc.Global.{Global}
use Rattle.reflect_tables.specs.Types.{DefaultType, signed, unsigned, truth, text, octets, named, fraction, FieldType, OneofType, FileType, FilePlaces, ChildPlaces, MessageType, EnumType, ValueType, ExtensionType, MethodType, ServiceType, PoolType, KindType, double, float, int32, int64, uint32, uint64, sint32, sint64, fixed32, fixed64, sfixed32, sfixed64, bool, string, bytes, message, enumeration}
use Rattle.descriptor_records.specs.declared.file.FileDescriptorProto.{FileDescriptorProto}
pub use Rattle.descriptor_records.specs.Content.{text_of}
use Rattle.reflect_tables.specs.declared.stored.StoredKind.{StoredKind}
use Rattle.reflect_tables.specs.declared.stored.StoredKind.TheVariants as kinds
use Rattle.reflect_tables.specs.declared.kind.Syntax.{Syntax}
use Rattle.reflect_tables.specs.declared.kind.Syntax.TheVariants.{Proto2, Proto3}
use Rattle.reflect_tables.specs.declared.stored.Children.{Children}
use Rattle.reflect_tables.specs.declared.stored.Declared.{Declared}
use Rattle.reflect_tables.specs.declared.stored.StoredDefault.{StoredDefault}
use Rattle.reflect_tables.specs.declared.stored.StoredDefault.TheVariants as defaults
use Rattle.reflect_tables.specs.declared.stored.StoredField.{StoredField}
use Rattle.reflect_tables.specs.declared.stored.StoredOneof.{StoredOneof}
use Rattle.reflect_tables.specs.declared.stored.StoredFile.{StoredFile}
use Rattle.reflect_tables.specs.declared.stored.StoredMessage.{StoredMessage}
use Rattle.reflect_tables.specs.declared.stored.StoredValue.{StoredValue}
use Rattle.reflect_tables.specs.declared.stored.StoredEnum.{StoredEnum}
use Rattle.reflect_tables.specs.declared.stored.StoredExtension.{StoredExtension}
use Rattle.reflect_tables.specs.declared.stored.StoredMethod.{StoredMethod}
use Rattle.reflect_tables.specs.declared.stored.StoredService.{StoredService}
use Rattle.reflect_tables.specs.declared.tables.Tables.{Tables}
use Rattle.reflect_tables.specs.Ranges.{Range}
use Rattle.reflect_tables.specs.declared.ranges.NumberRanges.{NumberRanges}

abbrev pub ranges_of : NumberRanges → List Range
ranges_of r = map (λ x. (x.start, x.end)) r.ranges.items

abbrev pub kind_of : StoredKind → KindType
kind_of kinds.Double = double
kind_of kinds.Float = float
kind_of kinds.Int32 = int32
kind_of kinds.Int64 = int64
kind_of kinds.Uint32 = uint32
kind_of kinds.Uint64 = uint64
kind_of kinds.Sint32 = sint32
kind_of kinds.Sint64 = sint64
kind_of kinds.Fixed32 = fixed32
kind_of kinds.Fixed64 = fixed64
kind_of kinds.Sfixed32 = sfixed32
kind_of kinds.Sfixed64 = sfixed64
kind_of kinds.Bool = bool
kind_of kinds.String = string
kind_of kinds.Bytes = bytes
kind_of (kinds.Message i) = message i
kind_of (kinds.Enum i) = enumeration i

-- a text that may be missing
abbrev pub name_of : Option (String Global) → Option (List ℕ)
name_of None = None
name_of (Some s) = Some (string_bytes s)

abbrev pub default_type : StoredDefault → DefaultType
default_type (defaults.I64 n) = signed n
default_type (defaults.U64 n) = unsigned n
default_type (defaults.Bool b) = truth b
default_type (defaults.Text s) = text (string_bytes s)
default_type (defaults.Bytes b) = octets b.items
default_type (defaults.Enum s) = named (string_bytes s)
default_type (defaults.Float s) = fraction (string_bytes s)

-- the default, if one is given
abbrev pub default_of : Option StoredDefault → Option DefaultType
default_of None = None
default_of (Some d) = Some (default_type d)

abbrev pub field_of : StoredField → FieldType
field_of f = record {
  path = f.path.items;
  name = string_bytes f.name;
  full_name = string_bytes f.full_name;
  json_name = name_of f.json_name;
  number = f.number;
  kind = kind_of f.kind;
  cardinality = f.cardinality;
  group = f.is_group;
  packed = f.is_packed;
  presence = f.supports_presence;
  oneof = f.oneof;
  default = default_of f.default;
}

abbrev pub oneof_of : StoredOneof → OneofType
oneof_of o = record {
  path = o.path.items;
  name = string_bytes o.name;
  full_name = string_bytes o.full_name;
  fields = o.fields.items;
  synthetic = o.is_synthetic;
}

abbrev pub children_of : Children → ChildPlaces
children_of c = record {
  messages = c.messages.items;
  enums = c.enums.items;
  extensions =
      c.extensions.items;
}

abbrev pub message_of : StoredMessage → MessageType
message_of m = record {
  path = m.path.items;
  name = string_bytes m.name;
  full_name = string_bytes m.full_name;
  file = m.file;
  parent = m.parent;
  fields = map field_of m.fields.list.items;
  oneofs = map oneof_of m.oneofs.items;
  children = children_of m.children;
  entry = m.entry;
  extension_ranges = ranges_of m.extension_numbers;
}

abbrev pub value_of : StoredValue → ValueType
value_of v = record {
  path = v.path.items;
  name = string_bytes v.name;
  full_name = string_bytes v.full_name;
  number = v.number;
}

abbrev pub enum_of : StoredEnum → EnumType
enum_of e = record {
  path = e.path.items;
  name = string_bytes e.name;
  full_name = string_bytes e.full_name;
  file = e.file;
  parent = e.parent;
  values = map value_of e.values.list.items;
}

abbrev pub extension_of : StoredExtension → ExtensionType
extension_of x = record {
  file = x.file;
  parent = x.parent;
  extendee = x.extendee;
  field = field_of x.field;
  json_name = string_bytes x.json_name;
}

abbrev pub method_of : StoredMethod → MethodType
method_of m = record {
  path = m.path.items;
  name = string_bytes m.name;
  full_name = string_bytes m.full_name;
  input = m.input;
  output = m.output;
  client_streaming = m.is_client_streaming;
  server_streaming = m.is_server_streaming;
}

abbrev pub service_of : StoredService → ServiceType
service_of s = record {
  path = s.path.items;
  name = string_bytes s.name;
  full_name = string_bytes s.full_name;
  file = s.file;
  methods = map method_of s.methods.items;
}

-- the syntax that a record names; without one it is proto2
abbrev pub syntax_type : Option (String Global) → Syntax
syntax_type None = Proto2
syntax_type (Some s) = cond (bytes_eq (string_bytes s) (codes "proto3")) Proto3 Proto2

abbrev pub record_file : FileDescriptorProto → FileType
record_file f = record {
  name = text_of f.name;
  package_name = text_of f.«package»;
  syntax = syntax_type f.syntax;
  imports = map string_bytes f.dependency.items;
  public_imports = f.public_dependency.items;
}

abbrev pub file_of : StoredFile → FileType
file_of f = record_file f.record

abbrev pub record_of : StoredFile → FileDescriptorProto
record_of f = f.record

abbrev pub declared_of : Declared → FilePlaces
declared_of d = record { children = children_of d.children; services = d.services.items }

abbrev pub places_of : StoredFile → FilePlaces
places_of f = declared_of f.declared

abbrev pub pool_of : Tables → PoolType
pool_of t = record {
  files = map file_of t.files.items;
  records = map record_of t.files.items;
  declared = map places_of t.files.items;
  messages = map message_of t.messages.items;
  enums = map enum_of t.enums.items;
  extensions = map extension_of t.extensions.items;
  services = map service_of t.services.items;
}
