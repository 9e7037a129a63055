-- What the record of a field or an extension says of it (descriptor.proto; protobuf.dev,
-- "Encoding", Packed Repeated Fields, and "Application Note: Field Presence").
use Rattle.std.specs.Prelude.{◌≡◌, List, ℕ, ℤ, pos, Bool, true, false, not, ◌&&◌, ◌||◌, cond, Option, None, Some, unwrap_or, is_some}
use Rattle.std.specs.Ordering.{int_eq}
use Rattle.descriptor_records.specs.declared.field.FieldDescriptorProto.{FieldDescriptorProto}
use Rattle.descriptor_records.specs.declared.field.FieldType.{FieldType}
use Rattle.descriptor_records.specs.declared.field.FieldType.TheVariants as types
use Rattle.descriptor_records.specs.declared.field.Label.TheVariants as labels
use Rattle.descriptor_records.specs.declared.options.Options.{Options}
use Rattle.descriptor_records.specs.FieldNumbers.{label_number, type_number}
use Rattle.reflect_declarations.specs.Tree.{text_of}
use Rattle.reflect_tables.specs.Types.{FieldType as FieldEntry, KindType, double, float, int32, int64, uint32, uint64, sint32, sint64, fixed32, fixed64, sfixed32, sfixed64, bool, string, bytes, message}
use Rattle.reflect_tables.specs.Views.{name_of}
use Rattle.reflect_tables.specs.declared.kind.Cardinality.{Cardinality}
use Rattle.reflect_tables.specs.declared.kind.Cardinality.TheVariants.{Optional, Required, Repeated}
use Rattle.reflect_tables.specs.declared.kind.Syntax.{Syntax}
use Rattle.reflect_tables.specs.declared.kind.Syntax.TheVariants.{Proto2, Proto3}
use Rattle.reflect_fields.specs.FieldDefaults.{IsDefault}

abbrev pub is_proto3 : Syntax → Bool
is_proto3 Proto2 = false
is_proto3 Proto3 = true

-- the number is written
abbrev pub is_number : ℤ → Option ℤ → Bool
is_number n None = false
is_number n (Some m) = int_eq m n

-- the number, unless it is negative
abbrev pub natural : Option ℤ → Option ℕ
natural (Some (pos n)) = Some n
natural _ = None

-- without a label a field is optional
abbrev pub label_of : Option ℤ → Cardinality
label_of label =
    cond (is_number (label_number labels.Required) label) Required
    (cond (is_number (label_number labels.Repeated) label) Repeated Optional)

abbrev pub is_repeated : Cardinality → Bool
is_repeated Optional = false
is_repeated Required = false
is_repeated Repeated = true

-- what a scalar type holds; groups, messages and enums have names
abbrev pub scalar_type : FieldType → Option KindType
scalar_type types.Double = Some double
scalar_type types.Float = Some float
scalar_type types.Int64 = Some int64
scalar_type types.Uint64 = Some uint64
scalar_type types.Int32 = Some int32
scalar_type types.Fixed64 = Some fixed64
scalar_type types.Fixed32 = Some fixed32
scalar_type types.Bool = Some bool
scalar_type types.String = Some string
scalar_type types.Group = None
scalar_type types.Message = None
scalar_type types.Bytes = Some bytes
scalar_type types.Uint32 = Some uint32
scalar_type types.Enum = None
scalar_type types.Sfixed32 = Some sfixed32
scalar_type types.Sfixed64 = Some sfixed64
scalar_type types.Sint32 = Some sint32
scalar_type types.Sint64 = Some sint64

-- numbers, truth values and enums
abbrev pub is_packable : KindType → Bool
is_packable string = false
is_packable bytes = false
is_packable (message i) = false
is_packable _ = true

abbrev pub packed_option : Option Options → Option Bool
packed_option None = None
packed_option (Some o) = o.packed

-- a list of such: in proto3 unless the options say no, in proto2 only where they say yes
abbrev pub is_packed : Syntax → Cardinality → KindType → Option Options → Bool
is_packed syntax label k options = is_repeated label
    && (is_packable k && unwrap_or (packed_option options) (is_proto3 syntax))

abbrev pub is_message : KindType → Bool
is_message (message i) = true
is_message _ = false

-- no list; messages, members of oneofs and each field of proto2
abbrev pub has_presence : Syntax → Cardinality → KindType → Option ℤ → Bool
has_presence syntax label k oneof = not (is_repeated label)
    && (is_message k || (is_some oneof || not (is_proto3 syntax)))

-- what a record says of a field and of an extension alike, which stands at this place of a file of
-- this syntax, has this full name, and holds this
pub record Says (s : Syntax) (at : List ℤ) (full : List ℕ) (holds : KindType)
    (r : FieldDescriptorProto) (f : FieldEntry) : Type 0 where
  pub path : f.path ≡ at
  pub name : f.name ≡ text_of r.name
  pub full_name : f.full_name ≡ full
  pub json_name : f.json_name ≡ name_of r.json_name
  pub number : f.number ≡ unwrap_or (natural r.number) 0
  pub kind : f.kind ≡ holds
  pub cardinality : f.cardinality ≡ label_of r.label
  pub group : f.group ≡ is_number (type_number types.Group) r.field_type
  pub packed : f.packed ≡ is_packed s (label_of r.label) holds r.options
  pub default : IsDefault holds r f.default

pub record IsField (s : Syntax) (at : List ℤ) (full : List ℕ) (holds : KindType)
    (r : FieldDescriptorProto) (f : FieldEntry) : Type 0 where
  pub says : Says s at full holds r f
  pub presence : f.presence ≡ has_presence s (label_of r.label) holds r.oneof_index
  pub oneof : f.oneof ≡ natural r.oneof_index

-- an extension is in no oneof, and has presence unless it is a list
pub record IsExtension (s : Syntax) (at : List ℤ) (full : List ℕ) (holds : KindType)
    (r : FieldDescriptorProto) (f : FieldEntry) : Type 0 where
  pub says : Says s at full holds r f
  pub presence : f.presence ≡ not (is_repeated (label_of r.label))
  pub oneof : f.oneof ≡ None
