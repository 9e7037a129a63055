-- The names that a file gives to what it declares, as its declarations are nested.
use Rattle.std.specs.Prelude.{ℕ, List, map, Option}
use Rattle.descriptor_records.specs.Content.{text_view}
use Rattle.descriptor_records.specs.declared.enums.EnumDescriptorProto.{EnumDescriptorProto}
use Rattle.descriptor_records.specs.declared.enums.EnumValueDescriptorProto.{EnumValueDescriptorProto}
use Rattle.descriptor_records.specs.declared.field.FieldDescriptorProto.{FieldDescriptorProto}
use Rattle.descriptor_records.specs.declared.field.OneofDescriptorProto.{OneofDescriptorProto}
use Rattle.descriptor_records.specs.declared.file.FileDescriptorProto.{FileDescriptorProto}
use Rattle.descriptor_records.specs.declared.message.DescriptorProto.{DescriptorProto}
use Rattle.descriptor_records.specs.declared.service.MethodDescriptorProto.{MethodDescriptorProto}
use Rattle.descriptor_records.specs.declared.service.ServiceDescriptorProto.{ServiceDescriptorProto}
use Rattle.reflect_declarations.specs.Tree.{Message, message, Messages, no_messages, more_messages, tree_of}
use Rattle.reflect_declarations.specs.Declarations.{trees_of}

-- a name, if one is given
abbrev pub Given : Type 0
Given = Option (List ℕ)

pub record EnumNames : Type 0 where
  pub name : Given
  pub values : List Given

pub record ServiceNames : Type 0 where
  pub name : Given
  pub methods : List Given

mutual
  pub data MessageNames : Type 0 where
    message_names : (name : Given) (fields : List Given) (nested : NestedNames)
        (enums : List EnumNames) (extensions oneofs : List Given) → MessageNames

  pub data NestedNames : Type 0 where
    no_names : NestedNames
    more_names : MessageNames → NestedNames → NestedNames

pub record FileNames : Type 0 where
  pub package_name : Given
  pub messages : NestedNames
  pub enums : List EnumNames
  pub services : List ServiceNames
  pub extensions : List Given

abbrev pub field_name : FieldDescriptorProto → Given
field_name f = text_view f.name

abbrev pub oneof_name : OneofDescriptorProto → Given
oneof_name o = text_view o.name

abbrev pub value_name : EnumValueDescriptorProto → Given
value_name v = text_view v.name

abbrev pub enum_names : EnumDescriptorProto → EnumNames
enum_names e = record { name = text_view e.name; values = map value_name e.value.items }

abbrev pub method_name : MethodDescriptorProto → Given
method_name m = text_view m.name

abbrev pub service_names : ServiceDescriptorProto → ServiceNames
service_names s = record { name = text_view s.name; methods = map method_name s.method.items }

abbrev mutual
  pub names_in : Message → MessageNames
  names_in (message own nested) = message_names (text_view own.name) (map field_name own.field)
      (names_in_each nested) (map enum_names own.enum_type) (map field_name own.extension)
      (map oneof_name own.oneof_decl)

  pub names_in_each : Messages → NestedNames
  names_in_each no_messages = no_names
  names_in_each (more_messages m ms) = more_names (names_in m) (names_in_each ms)

abbrev pub names_of_message : DescriptorProto → MessageNames
names_of_message m = names_in (tree_of m)

abbrev pub names_of_file : FileDescriptorProto → FileNames
names_of_file f = record {
  package_name = text_view f.package;
  messages = names_in_each (trees_of f);
  enums = map enum_names f.enum_type.items;
  services = map service_names f.service.items;
  extensions = map field_name f.extension.items;
}
