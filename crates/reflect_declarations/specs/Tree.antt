-- A message with the messages in it, as a tree.
use Rattle.std.specs.Prelude.{List, [], ◌∷◌, Option, String}
use Rattle.std.specs.declared.alloc.Global.{Global}
use Rattle.descriptor_records.specs.declared.enums.EnumDescriptorProto.{EnumDescriptorProto}
use Rattle.descriptor_records.specs.declared.field.FieldDescriptorProto.{FieldDescriptorProto}
use Rattle.descriptor_records.specs.declared.field.OneofDescriptorProto.{OneofDescriptorProto}
use Rattle.descriptor_records.specs.declared.message.ExtensionRange.{ExtensionRange}
use Rattle.descriptor_records.specs.declared.message.ReservedRange.{ReservedRange}
use Rattle.descriptor_records.specs.declared.options.Options.{Options}
use Rattle.descriptor_records.specs.declared.message.DescriptorProto.{DescriptorProto}
use Rattle.descriptor_records.specs.declared.message.DescriptorProto.TheOpen.{DescriptorProto-F}
use Rattle.descriptor_records.specs.declared.message.DescriptorProto.TheFolds.{fold-DescriptorProto}
use Rattle.descriptor_records.specs.declared.message.DescriptorProto.TheViews.{out-DescriptorProto}
pub use Rattle.descriptor_records.specs.Content.{text_of}

-- a message's record, without the messages in it
pub record MessageParts : Type 0 where
  pub name : Option (String Global)
  pub field : List FieldDescriptorProto
  pub extension : List FieldDescriptorProto
  pub enum_type : List EnumDescriptorProto
  pub extension_range : List ExtensionRange
  pub oneof_decl : List OneofDescriptorProto
  pub options : Option Options
  pub reserved_range : List ReservedRange
  pub reserved_name : List (String Global)

abbrev pub parts : {A : Type 0} → DescriptorProto-F A → MessageParts
parts m = record {
  name = m.name;
  field = m.field.items;
  extension = m.extension.items;
  enum_type = m.enum_type.items;
  extension_range = m.extension_range.items;
  oneof_decl = m.oneof_decl.items;
  options = m.options;
  reserved_range = m.reserved_range.items;
  reserved_name = m.reserved_name.items;
}

abbrev pub parts_of : DescriptorProto → MessageParts
parts_of m = parts (out-DescriptorProto m)

mutual
  pub data Message : Type 0 where
    message : (own : MessageParts) (nested : Messages) → Message

  pub data Messages : Type 0 where
    no_messages : Messages
    more_messages : Message → Messages → Messages

abbrev pub messages_of : List Message → Messages
messages_of [] = no_messages
messages_of (m ∷ ms) = more_messages m (messages_of ms)

abbrev pub message_step : DescriptorProto-F Message → Message
message_step m = message (parts m) (messages_of m.nested_type.items)

abbrev pub tree_of : DescriptorProto → Message
tree_of = fold-DescriptorProto Message message_step
