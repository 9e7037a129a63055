-- The entities that may have options (descriptor.proto; protobuf.dev, "Custom Options"): each
-- declaration, and the extension ranges of messages.
use Rattle.std.specs.Prelude.{◌∷◌, [], ℕ, ℤ, pos, List, Option}
use Rattle.std.specs.List.{flat_map}
use Rattle.descriptor_records.specs.declared.file.FileDescriptorProto.{FileDescriptorProto}
use Rattle.descriptor_records.specs.declared.message.ExtensionRange.{ExtensionRange}
use Rattle.descriptor_records.specs.declared.options.Options.{Options}
use Rattle.option_parts.specs.declared.option_scope.OptionScope.{OptionScope}
use Rattle.option_parts.specs.declared.option_scope.OptionScope.TheVariants as scopes
use Rattle.reflect_declarations.specs.Declarations.{Declaration, each, entry, file_declarations, of_enum, of_enum_value, of_extension, of_field, of_file, of_message, of_method, of_oneof, of_service}
use Rattle.reflect_declarations.specs.Tree.{text_of}
use Rattle.reflect_declarations.specs.declared.offsets.Offsets.{Offsets}

pub record Entity : Type 0 where
  pub scope : OptionScope
  -- the index of its file, where it stands in that record, and the number of its options there
  pub file : ℕ
  pub path : List ℤ
  pub number : ℤ
  -- the name from which names in its options are looked up
  pub name : List ℕ
  pub options : Option Options

-- what is declared, with its options
abbrev pub declared : Declaration → OptionScope → ℤ → Option Options → Entity
declared d scope number options = record {
  scope = scope;
  file = d.file;
  path = d.path;
  number = number;
  name = d.name;
  options = options;
}

-- the extension range at a place of the message of this name at a path of a file
abbrev pub range_at : ℕ → List ℤ → List ℕ → ℕ → ExtensionRange → List Entity
range_at file path name place r = record {
  scope = scopes.ExtensionRange;
  file = file;
  path = entry path (pos 5) place;
  number = pos 3;
  name = name;
  options = r.options;
} ∷ []

-- names in the options of a file are looked up from its package
abbrev pub file_entity : Declaration → FileDescriptorProto → Entity
file_entity d f = record {
  scope = scopes.File;
  file = d.file;
  path = d.path;
  number = pos 8;
  name = text_of f.package;
  options = f.options;
}

-- those of a declaration
abbrev pub entities : Declaration → List Entity
entities d = elim d.body [
  | of_file f ↦ file_entity d f ∷ []
  | of_message m ↦ declared d scopes.Message (pos 7) m.options
      ∷ each (range_at d.file d.path d.name) 0 m.extension_range
  | of_field f ↦ declared d scopes.Field (pos 8) f.options ∷ []
  | of_oneof o ↦ declared d scopes.Oneof (pos 2) o.options ∷ []
  | of_enum e ↦ declared d scopes.Enum (pos 3) e.options ∷ []
  | of_enum_value v ↦ declared d scopes.EnumValue (pos 3) v.options ∷ []
  | of_service s ↦ declared d scopes.Service (pos 3) s.options ∷ []
  | of_method m ↦ declared d scopes.Method (pos 4) m.options ∷ []
  | of_extension x ↦ declared d scopes.Field (pos 8) x.options ∷ []
]

abbrev pub no_offsets : Offsets
no_offsets = record { messages = 0; enums = 0; extensions = 0; services = 0 }

-- those of the file of an index
abbrev pub file_entities : ℕ → FileDescriptorProto → List Entity
file_entities file f = flat_map entities (file_declarations no_offsets file f)
