-- Records that bytes can say: their numbers are numbers of 32 bits, what is to be said of options
-- is so of theirs, and those that stand in them are no deeper than levels are left.
use Rattle.std.specs.Prelude.{ℕ, ◌<◌, ◌-◌, List, Option}
use Rattle.std.specs.List.{AllByRecursion}
use Rattle.descriptor_records.specs.Content.{EnumContent, EnumValueContent, ExtensionRangeContent, FieldContent, FileContent, LocationContent, MessageContent, message, MessageContents, more_messages, no_messages, messages_of, MethodContent, OneofContent, OptionsContent, ServiceContent}
use Rattle.descriptor_records.specs.declared.enums.EnumReservedRange.{EnumReservedRange}
use Rattle.descriptor_records.specs.declared.message.ReservedRange.{ReservedRange}
use Rattle.option_parts.specs.declared.option_scope.OptionScope.{OptionScope}
use Rattle.option_parts.specs.declared.option_scope.OptionScope.TheVariants as scopes
pub use Rattle.codec_laws.specs.Plain.{FitsInt32, IfThere, IsInside}

-- options take a level, and this is so of them
abbrev pub ArePlainOptions : (OptionScope → OptionsContent → Type 0) → OptionScope → ℕ
    → Option OptionsContent → Type 0
ArePlainOptions Says scope levels = IfThere (λ o. (0 < levels) × Says scope o)

pub record IsPlainField (Says : OptionScope → OptionsContent → Type 0) (levels : ℕ)
    (f : FieldContent) : Type 0 where
  pub number : IfThere FitsInt32 f.number
  pub label : IfThere FitsInt32 f.label
  pub field_type : IfThere FitsInt32 f.field_type
  pub options : ArePlainOptions Says scopes.Field levels f.options
  pub oneof_index : IfThere FitsInt32 f.oneof_index

abbrev pub IsPlainOneof : (OptionScope → OptionsContent → Type 0) → ℕ → OneofContent → Type 0
IsPlainOneof Says levels o = ArePlainOptions Says scopes.Oneof levels o.options

pub record IsPlainEnumValue (Says : OptionScope → OptionsContent → Type 0) (levels : ℕ)
    (v : EnumValueContent) : Type 0 where
  pub number : IfThere FitsInt32 v.number
  pub options : ArePlainOptions Says scopes.EnumValue levels v.options

abbrev pub IsPlainEnumRange : ℕ → EnumReservedRange → Type 0
IsPlainEnumRange levels r = IfThere FitsInt32 r.start × IfThere FitsInt32 r.end

pub record IsPlainEnum (Says : OptionScope → OptionsContent → Type 0) (levels : ℕ)
    (e : EnumContent) : Type 0 where
  pub value : AllByRecursion (IsInside (IsPlainEnumValue Says) levels) e.value
  pub options : ArePlainOptions Says scopes.Enum levels e.options
  pub reserved_range : AllByRecursion (IsInside IsPlainEnumRange levels) e.reserved_range

abbrev pub IsPlainMethod : (OptionScope → OptionsContent → Type 0) → ℕ → MethodContent → Type 0
IsPlainMethod Says levels m = ArePlainOptions Says scopes.Method levels m.options

pub record IsPlainService (Says : OptionScope → OptionsContent → Type 0) (levels : ℕ)
    (s : ServiceContent) : Type 0 where
  pub method : AllByRecursion (IsInside (IsPlainMethod Says) levels) s.method
  pub options : ArePlainOptions Says scopes.Service levels s.options

abbrev pub IsPlainLocation : ℕ → LocationContent → Type 0
IsPlainLocation levels l = AllByRecursion FitsInt32 l.path × AllByRecursion FitsInt32 l.span

-- the record of the locations is one in the file's, and each of them one in that
abbrev pub ArePlainLocations : ℕ → List LocationContent → Type 0
ArePlainLocations levels ls = (0 < levels)
    × AllByRecursion (IsInside IsPlainLocation (levels - 1)) ls

pub record IsPlainExtensionRange (Says : OptionScope → OptionsContent → Type 0) (levels : ℕ)
    (r : ExtensionRangeContent) : Type 0 where
  pub start : IfThere FitsInt32 r.start
  pub end : IfThere FitsInt32 r.end
  pub options : ArePlainOptions Says scopes.ExtensionRange levels r.options

abbrev pub IsPlainReservedRange : ℕ → ReservedRange → Type 0
IsPlainReservedRange levels r = IfThere FitsInt32 r.start × IfThere FitsInt32 r.end

-- what stands in a message type, but for the types that are declared in it
pub record HasPlainParts (Says : OptionScope → OptionsContent → Type 0) (levels : ℕ)
    (fields extensions : List FieldContent) (enums : List EnumContent)
    (ranges : List ExtensionRangeContent) (oneofs : List OneofContent)
    (options : Option OptionsContent) (reserved : List ReservedRange) : Type 0 where
  pub fields_are : AllByRecursion (IsInside (IsPlainField Says) levels) fields
  pub extensions_are : AllByRecursion (IsInside (IsPlainField Says) levels) extensions
  pub enums_are : AllByRecursion (IsInside (IsPlainEnum Says) levels) enums
  pub ranges_are : AllByRecursion (IsInside (IsPlainExtensionRange Says) levels) ranges
  pub oneofs_are : AllByRecursion (IsInside (IsPlainOneof Says) levels) oneofs
  pub options_are : ArePlainOptions Says scopes.Message levels options
  pub reserved_are : AllByRecursion (IsInside IsPlainReservedRange levels) reserved

abbrev mutual
  -- a message type, for which as many levels are left as where it stands
  pub IsPlainMessage : (OptionScope → OptionsContent → Type 0) → ℕ → MessageContent → Type 0
  IsPlainMessage Says levels
      (message name fields extensions nested enums ranges oneofs options reserved names) =
      (0 < levels)
      × HasPlainParts Says (levels - 1) fields extensions enums ranges oneofs options reserved
      × ArePlainMessages Says (levels - 1) nested

  pub ArePlainMessages : (OptionScope → OptionsContent → Type 0) → ℕ → MessageContents → Type 0
  ArePlainMessages Says levels no_messages = Unit {0}
  ArePlainMessages Says levels (more_messages m ms) =
      IsPlainMessage Says levels m × ArePlainMessages Says levels ms

pub record IsPlainFile (Says : OptionScope → OptionsContent → Type 0) (levels : ℕ)
    (f : FileContent) : Type 0 where
  pub message_type : ArePlainMessages Says levels (messages_of f.message_type)
  pub enum_type : AllByRecursion (IsInside (IsPlainEnum Says) levels) f.enum_type
  pub service : AllByRecursion (IsInside (IsPlainService Says) levels) f.service
  pub extension : AllByRecursion (IsInside (IsPlainField Says) levels) f.extension
  pub options : ArePlainOptions Says scopes.File levels f.options
  pub source_code_info : IfThere (ArePlainLocations levels) f.source_code_info
  pub public_dependency : AllByRecursion FitsInt32 f.public_dependency
  pub weak_dependency : AllByRecursion FitsInt32 f.weak_dependency

-- files of a set, each of which takes a level of the 100 that a set has
abbrev pub ArePlainFiles : (OptionScope → OptionsContent → Type 0) → List FileContent → Type 0
ArePlainFiles Says fs = AllByRecursion (IsPlainFile Says 99) fs
