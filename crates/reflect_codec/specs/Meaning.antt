-- What the fields of a descriptor record mean: the record whose fields are these. Fields of other
-- numbers mean nothing.
use Rattle.std.specs.Prelude.{◌≡◌, ℕ, zero, suc, Bool, List, [], Option, Some, None, String, string_bytes, unwrap_or}
use Rattle.std.specs.List.{AllZip}
use Rattle.std.specs.declared.alloc.Global.{Global}
use Rattle.descriptor_records.specs.declared.options.NamePart.{NamePart}
use Rattle.descriptor_records.specs.declared.options.UninterpretedOption.{UninterpretedOption}
use Rattle.descriptor_records.specs.declared.field.FieldDescriptorProto.{FieldDescriptorProto}
use Rattle.descriptor_records.specs.declared.field.OneofDescriptorProto.{OneofDescriptorProto}
use Rattle.descriptor_records.specs.declared.enums.EnumValueDescriptorProto.{EnumValueDescriptorProto}
use Rattle.descriptor_records.specs.declared.enums.EnumReservedRange.{EnumReservedRange}
use Rattle.descriptor_records.specs.declared.enums.EnumDescriptorProto.{EnumDescriptorProto}
use Rattle.descriptor_records.specs.declared.service.MethodDescriptorProto.{MethodDescriptorProto}
use Rattle.descriptor_records.specs.declared.service.ServiceDescriptorProto.{ServiceDescriptorProto}
use Rattle.descriptor_records.specs.declared.source_info.Location.{Location}
use Rattle.descriptor_records.specs.declared.source_info.SourceCodeInfo.{SourceCodeInfo}
use Rattle.descriptor_records.specs.declared.message.ExtensionRange.{ExtensionRange}
use Rattle.descriptor_records.specs.declared.message.ReservedRange.{ReservedRange}
use Rattle.descriptor_records.specs.declared.file.FileDescriptorProto.{FileDescriptorProto}
use Rattle.descriptor_records.specs.declared.file.FileDescriptorSet.{FileDescriptorSet}
use Rattle.descriptor_records.specs.declared.options.Options.{Options}
use Rattle.descriptor_records.specs.declared.message.DescriptorProto.{DescriptorProto}
use Rattle.descriptor_records.specs.declared.message.DescriptorProto.TheOpen.{DescriptorProto-F}
use Rattle.descriptor_records.specs.declared.message.DescriptorProto.TheViews.{out-DescriptorProto}
use Rattle.reflect_codec.specs.declared.options.OptionsOf.{OptionsOf}
use Rattle.reflect_codec.specs.declared.options.OptionsOf.TheVariants as of
use Rattle.reflect_codec.specs.Reading.{Value, Field, SpellsFields, values_at, IsPartBelow, IsBool, IsLastIf, AreJoined, ArePayloads, AlongOption, TextAt, TextsAt, BytesAt, NumberAt, Int32At, Int64At, BoolAt, DoubleAt, Int32sAt, RecordsAt, MergedAt}

abbrev pub text_or_empty : Option (String Global) → List ℕ
text_or_empty None = []
text_or_empty (Some t) = string_bytes t

pub record IsNamePart (levels : ℕ) (fs : List Field) (r : NamePart) : Type 0 where
  pub name_part : (o : Option (String Global)) × TextAt 1 fs o
      × (string_bytes r.name_part ≡ text_or_empty o)
  pub is_extension : (o : Option Bool) × BoolAt 2 fs o × (r.is_extension ≡ unwrap_or o Bool.false)

pub record IsUninterpretedOption (levels : ℕ) (fs : List Field)
    (r : UninterpretedOption) : Type 0 where
  pub name : RecordsAt IsNamePart levels 2 fs r.name
  pub identifier_value : TextAt 3 fs r.identifier_value
  pub positive_int_value : NumberAt 4 fs r.positive_int_value
  pub negative_int_value : Int64At 5 fs r.negative_int_value
  pub double_value : DoubleAt 6 fs r.double_value
  pub string_value : BytesAt 7 fs r.string_value
  pub aggregate_value : TextAt 8 fs r.aggregate_value

abbrev pub is_field : OptionsOf → Bool
is_field of.Field = Bool.true
is_field _ = Bool.false

abbrev pub is_enum : OptionsOf → Bool
is_enum of.Enum = Bool.true
is_enum _ = Bool.false

abbrev pub is_message : OptionsOf → Bool
is_message of.Message = Bool.true
is_message _ = Bool.false

-- options: their bytes as they came, and the parts that linking reads itself; levels are counted
-- from them
pub record IsOptions (kind : OptionsOf) (values : List Value) (fs : List Field)
    (o : Options) : Type 0 where
  pub encoded : ArePayloads values o.encoded.items
  pub packed : IsLastIf (is_field kind) IsBool (values_at 2 fs) o.packed
  pub allow_alias : IsLastIf (is_enum kind) IsBool (values_at 2 fs) o.allow_alias
  pub map_entry : IsLastIf (is_message kind) IsBool (values_at 7 fs) o.map_entry
  pub uninterpreted_option : RecordsAt IsUninterpretedOption 100 999 fs o.uninterpreted_option

abbrev pub AreOptions : OptionsOf → ℕ → List Value → Option Options → Type 0
AreOptions kind levels vs o = (fs : Option (List Field)) × AreJoined levels 100 vs fs
    × AlongOption (IsOptions kind vs) fs o

abbrev pub OptionsAt : OptionsOf → ℕ → ℕ → List Field → Option Options → Type 0
OptionsAt kind levels n fs o = AreOptions kind levels (values_at n fs) o

pub record IsField (levels : ℕ) (fs : List Field) (r : FieldDescriptorProto) : Type 0 where
  pub name : TextAt 1 fs r.name
  pub extendee : TextAt 2 fs r.extendee
  pub number : Int32At 3 fs r.number
  pub label : Int32At 4 fs r.label
  pub field_type : Int32At 5 fs r.field_type
  pub type_name : TextAt 6 fs r.type_name
  pub default_value : TextAt 7 fs r.default_value
  pub options : OptionsAt of.Field levels 8 fs r.options
  pub oneof_index : Int32At 9 fs r.oneof_index
  pub json_name : TextAt 10 fs r.json_name
  pub proto3_optional : BoolAt 17 fs r.proto3_optional

pub record IsOneof (levels : ℕ) (fs : List Field) (r : OneofDescriptorProto) : Type 0 where
  pub name : TextAt 1 fs r.name
  pub options : OptionsAt of.Other levels 2 fs r.options

pub record IsEnumValue (levels : ℕ) (fs : List Field) (r : EnumValueDescriptorProto) : Type 0 where
  pub name : TextAt 1 fs r.name
  pub number : Int32At 2 fs r.number
  pub options : OptionsAt of.Other levels 3 fs r.options

pub record IsEnumRange (levels : ℕ) (fs : List Field) (r : EnumReservedRange) : Type 0 where
  pub start : Int32At 1 fs r.start
  pub end : Int32At 2 fs r.end

pub record IsEnum (levels : ℕ) (fs : List Field) (r : EnumDescriptorProto) : Type 0 where
  pub name : TextAt 1 fs r.name
  pub value : RecordsAt IsEnumValue levels 2 fs r.value
  pub options : OptionsAt of.Enum levels 3 fs r.options
  pub reserved_range : RecordsAt IsEnumRange levels 4 fs r.reserved_range
  pub reserved_name : TextsAt 5 fs r.reserved_name

pub record IsMethod (levels : ℕ) (fs : List Field) (r : MethodDescriptorProto) : Type 0 where
  pub name : TextAt 1 fs r.name
  pub input_type : TextAt 2 fs r.input_type
  pub output_type : TextAt 3 fs r.output_type
  pub options : OptionsAt of.Other levels 4 fs r.options
  pub client_streaming : BoolAt 5 fs r.client_streaming
  pub server_streaming : BoolAt 6 fs r.server_streaming

pub record IsService (levels : ℕ) (fs : List Field) (r : ServiceDescriptorProto) : Type 0 where
  pub name : TextAt 1 fs r.name
  pub method : RecordsAt IsMethod levels 2 fs r.method
  pub options : OptionsAt of.Other levels 3 fs r.options

pub record IsLocation (levels : ℕ) (fs : List Field) (r : Location) : Type 0 where
  pub path : Int32sAt 1 fs r.path
  pub span : Int32sAt 2 fs r.span
  pub leading_comments : TextAt 3 fs r.leading_comments
  pub trailing_comments : TextAt 4 fs r.trailing_comments
  pub leading_detached_comments : TextsAt 6 fs r.leading_detached_comments

pub record IsSourceInfo (levels : ℕ) (fs : List Field) (r : SourceCodeInfo) : Type 0 where
  pub location : RecordsAt IsLocation levels 1 fs r.location

pub record IsExtensionRange (levels : ℕ) (fs : List Field) (r : ExtensionRange) : Type 0 where
  pub start : Int32At 1 fs r.start
  pub end : Int32At 2 fs r.end
  pub options : OptionsAt of.Other levels 3 fs r.options

pub record IsReservedRange (levels : ℕ) (fs : List Field) (r : ReservedRange) : Type 0 where
  pub start : Int32At 1 fs r.start
  pub end : Int32At 2 fs r.end

-- one level of a message type, given what its nested types are
pub record IsLevel (inner : Value → DescriptorProto → Type 0) (levels : ℕ) (fs : List Field)
    (m : DescriptorProto-F DescriptorProto) : Type 0 where
  pub name : TextAt 1 fs m.name
  pub field : RecordsAt IsField levels 2 fs m.field
  pub nested_type : AllZip inner (values_at 3 fs) m.nested_type.items
  pub enum_type : RecordsAt IsEnum levels 4 fs m.enum_type
  pub extension_range : RecordsAt IsExtensionRange levels 5 fs m.extension_range
  pub extension : RecordsAt IsField levels 6 fs m.extension
  pub options : OptionsAt of.Message levels 7 fs m.options
  pub oneof_decl : RecordsAt IsOneof levels 8 fs m.oneof_decl
  pub reserved_range : RecordsAt IsReservedRange levels 9 fs m.reserved_range
  pub reserved_name : TextsAt 10 fs m.reserved_name

abbrev pub IsMessage : ℕ → Value → DescriptorProto → Type 0
IsMessage zero v m = ⊥
IsMessage (suc levels) v m = (fs : List Field) × IsPartBelow (suc levels) levels v fs
    × IsLevel (IsMessage levels) levels fs (out-DescriptorProto m)

pub record IsFile (levels : ℕ) (fs : List Field) (r : FileDescriptorProto) : Type 0 where
  pub name : TextAt 1 fs r.name
  pub package_name : TextAt 2 fs r.package
  pub dependency : TextsAt 3 fs r.dependency
  pub message_type : AllZip (IsMessage levels) (values_at 4 fs) r.message_type.items
  pub enum_type : RecordsAt IsEnum levels 5 fs r.enum_type
  pub service : RecordsAt IsService levels 6 fs r.service
  pub extension : RecordsAt IsField levels 7 fs r.extension
  pub options : OptionsAt of.Other levels 8 fs r.options
  pub source_code_info : MergedAt IsSourceInfo levels 9 fs r.source_code_info
  pub public_dependency : Int32sAt 10 fs r.public_dependency
  pub weak_dependency : Int32sAt 11 fs r.weak_dependency
  pub syntax_name : TextAt 12 fs r.syntax

pub record IsSet (levels : ℕ) (fs : List Field) (r : FileDescriptorSet) : Type 0 where
  pub file : RecordsAt IsFile levels 1 fs r.file

-- the bytes of a file, and of a set
abbrev pub IsFileBytes : List ℕ → FileDescriptorProto → Type 0
IsFileBytes bytes f = (fs : List Field) × SpellsFields 100 bytes fs × IsFile 100 fs f

abbrev pub IsSetBytes : List ℕ → FileDescriptorSet → Type 0
IsSetBytes bytes s = (fs : List Field) × SpellsFields 100 bytes fs × IsSet 100 fs s
