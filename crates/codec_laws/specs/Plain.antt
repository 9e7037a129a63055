-- Records that bytes can say: their numbers are numbers of 32 bits, their options say what their
-- bytes do, and those that stand in them are no deeper than levels are left.
use Rattle.std.specs.Prelude.{ℕ, ℤ, zero, suc, ◌<◌, ◌-◌, List, [], ◌∷◌, Option, Some, None, FitsSigned}
use Rattle.std.specs.Int.{w32}
use Rattle.std.specs.List.{AllByRecursion}
use Rattle.descriptor_records.specs.declared.enums.EnumDescriptorProto.{EnumDescriptorProto}
use Rattle.descriptor_records.specs.declared.enums.EnumReservedRange.{EnumReservedRange}
use Rattle.descriptor_records.specs.declared.enums.EnumValueDescriptorProto.{EnumValueDescriptorProto}
use Rattle.descriptor_records.specs.declared.field.FieldDescriptorProto.{FieldDescriptorProto}
use Rattle.descriptor_records.specs.declared.field.OneofDescriptorProto.{OneofDescriptorProto}
use Rattle.descriptor_records.specs.declared.file.FileDescriptorProto.{FileDescriptorProto}
use Rattle.descriptor_records.specs.declared.file.FileDescriptorSet.{FileDescriptorSet}
use Rattle.descriptor_records.specs.declared.message.DescriptorProto.{DescriptorProto}
use Rattle.descriptor_records.specs.declared.message.DescriptorProto.TheOpen.{DescriptorProto-F}
use Rattle.descriptor_records.specs.declared.message.DescriptorProto.TheViews.{out-DescriptorProto}
use Rattle.descriptor_records.specs.declared.message.ExtensionRange.{ExtensionRange}
use Rattle.descriptor_records.specs.declared.message.ReservedRange.{ReservedRange}
use Rattle.descriptor_records.specs.declared.options.Options.{Options}
use Rattle.descriptor_records.specs.declared.service.MethodDescriptorProto.{MethodDescriptorProto}
use Rattle.descriptor_records.specs.declared.service.ServiceDescriptorProto.{ServiceDescriptorProto}
use Rattle.descriptor_records.specs.declared.source_info.Location.{Location}
use Rattle.descriptor_records.specs.declared.source_info.SourceCodeInfo.{SourceCodeInfo}
use Rattle.reflect_codec.specs.Meaning.{IsOptions}
use Rattle.reflect_codec.specs.Reading.{Field, SpellsFields, payload}
use Rattle.reflect_codec.specs.declared.options.OptionsOf.{OptionsOf}
use Rattle.reflect_codec.specs.declared.options.OptionsOf.TheVariants as of

abbrev pub FitsInt32 : ℤ → Type 0
FitsInt32 z = FitsSigned w32 z

abbrev pub IfThere : {X : Type 0} → (X → Type 0) → Option X → Type 0
IfThere P None = Unit {0}
IfThere P (Some x) = P x

-- what linking reads of options is what their bytes say
abbrev pub SaysItsBytes : OptionsOf → Options → Type 0
SaysItsBytes kind o = (fs : List Field) × SpellsFields 100 o.encoded.items fs
    × IsOptions kind (payload o.encoded.items ∷ []) fs o

-- they take a level, and their own are counted from them
abbrev pub ArePlainOptions : OptionsOf → ℕ → Option Options → Type 0
ArePlainOptions kind levels = IfThere (λ o. (0 < levels) × SaysItsBytes kind o)

-- a record that stands in another takes a level
abbrev pub IsInside : {R : Type 0} → (ℕ → R → Type 0) → ℕ → R → Type 0
IsInside P levels r = (0 < levels) × P (levels - 1) r

pub record IsPlainField (levels : ℕ) (f : FieldDescriptorProto) : Type 0 where
  pub number : IfThere FitsInt32 f.number
  pub label : IfThere FitsInt32 f.label
  pub field_type : IfThere FitsInt32 f.field_type
  pub options : ArePlainOptions of.Field levels f.options
  pub oneof_index : IfThere FitsInt32 f.oneof_index

pub record IsPlainOneof (levels : ℕ) (o : OneofDescriptorProto) : Type 0 where
  pub options : ArePlainOptions of.Other levels o.options

pub record IsPlainEnumValue (levels : ℕ) (v : EnumValueDescriptorProto) : Type 0 where
  pub number : IfThere FitsInt32 v.number
  pub options : ArePlainOptions of.Other levels v.options

pub record IsPlainEnumRange (levels : ℕ) (r : EnumReservedRange) : Type 0 where
  pub start : IfThere FitsInt32 r.start
  pub end : IfThere FitsInt32 r.end

pub record IsPlainEnum (levels : ℕ) (e : EnumDescriptorProto) : Type 0 where
  pub value : AllByRecursion (IsInside IsPlainEnumValue levels) e.value.items
  pub options : ArePlainOptions of.Enum levels e.options
  pub reserved_range : AllByRecursion (IsInside IsPlainEnumRange levels) e.reserved_range.items

pub record IsPlainMethod (levels : ℕ) (m : MethodDescriptorProto) : Type 0 where
  pub options : ArePlainOptions of.Other levels m.options

pub record IsPlainService (levels : ℕ) (s : ServiceDescriptorProto) : Type 0 where
  pub method : AllByRecursion (IsInside IsPlainMethod levels) s.method.items
  pub options : ArePlainOptions of.Other levels s.options

pub record IsPlainLocation (levels : ℕ) (l : Location) : Type 0 where
  pub path : AllByRecursion FitsInt32 l.path.items
  pub span : AllByRecursion FitsInt32 l.span.items

pub record IsPlainSourceInfo (levels : ℕ) (s : SourceCodeInfo) : Type 0 where
  pub location : AllByRecursion (IsInside IsPlainLocation levels) s.location.items

pub record IsPlainExtensionRange (levels : ℕ) (r : ExtensionRange) : Type 0 where
  pub start : IfThere FitsInt32 r.start
  pub end : IfThere FitsInt32 r.end
  pub options : ArePlainOptions of.Other levels r.options

pub record IsPlainReservedRange (levels : ℕ) (r : ReservedRange) : Type 0 where
  pub start : IfThere FitsInt32 r.start
  pub end : IfThere FitsInt32 r.end

-- what stands in a message type, given what its nested types are
pub record IsPlainLevel (inner : DescriptorProto → Type 0) (levels : ℕ)
    (m : DescriptorProto-F DescriptorProto) : Type 0 where
  pub field : AllByRecursion (IsInside IsPlainField levels) m.field.items
  pub nested_type : AllByRecursion inner m.nested_type.items
  pub enum_type : AllByRecursion (IsInside IsPlainEnum levels) m.enum_type.items
  pub extension_range : AllByRecursion (IsInside IsPlainExtensionRange levels)
      m.extension_range.items
  pub extension : AllByRecursion (IsInside IsPlainField levels) m.extension.items
  pub options : ArePlainOptions of.Message levels m.options
  pub oneof_decl : AllByRecursion (IsInside IsPlainOneof levels) m.oneof_decl.items
  pub reserved_range : AllByRecursion (IsInside IsPlainReservedRange levels) m.reserved_range.items

-- a message type, for which as many levels are left as where it stands
abbrev pub IsPlainMessage : ℕ → DescriptorProto → Type 0
IsPlainMessage zero m = ⊥
IsPlainMessage (suc levels) m =
    IsPlainLevel (IsPlainMessage levels) levels (out-DescriptorProto m)

pub record IsPlainFile (levels : ℕ) (f : FileDescriptorProto) : Type 0 where
  pub message_type : AllByRecursion (IsPlainMessage levels) f.message_type.items
  pub enum_type : AllByRecursion (IsInside IsPlainEnum levels) f.enum_type.items
  pub service : AllByRecursion (IsInside IsPlainService levels) f.service.items
  pub extension : AllByRecursion (IsInside IsPlainField levels) f.extension.items
  pub options : ArePlainOptions of.Other levels f.options
  pub source_code_info : IfThere (IsInside IsPlainSourceInfo levels) f.source_code_info
  pub public_dependency : AllByRecursion FitsInt32 f.public_dependency.items
  pub weak_dependency : AllByRecursion FitsInt32 f.weak_dependency.items

-- the files of a set, each of which takes a level
abbrev pub IsPlainSet : FileDescriptorSet → Type 0
IsPlainSet s = AllByRecursion (IsInside IsPlainFile 100) s.file.items
