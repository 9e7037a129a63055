-- Message types, one level at a time.
use Rattle.std.proofs.Common.{◌≡◌, ◌∙◌, sym, map}
use Rattle.std.specs.Option.{option_map}
use Rattle.descriptor_records.specs.Content.{MessageContent, message, messages_of, message_step, message_view, text_view, texts_view, field_view, enum_view, extension_range_view, oneof_view, options_view}
use Rattle.descriptor_records.specs.declared.message.DescriptorProto.{DescriptorProto}
use Rattle.descriptor_records.specs.declared.message.DescriptorProto.TheOpen.{DescriptorProto-F}
use Rattle.descriptor_records.specs.declared.message.DescriptorProto.TheFolds.{fold-roll-DescriptorProto, fold_out-DescriptorProto}
use Rattle.descriptor_records.specs.declared.message.DescriptorProto.TheViews.{roll-DescriptorProto, out-DescriptorProto}

-- what is seen of one level
abbrev pub level_view : DescriptorProto-F DescriptorProto → MessageContent
level_view m = message (text_view m.name) (map field_view m.field.items) (map field_view m.extension.items) (messages_of (map message_view m.nested_type.items)) (map enum_view m.enum_type.items)
    (map extension_range_view m.extension_range.items) (map oneof_view m.oneof_decl.items) (option_map options_view m.options) m.reserved_range.items (texts_view m.reserved_name)

pub message_view-roll : (m : DescriptorProto-F DescriptorProto) → message_view (roll-DescriptorProto m) ≡ level_view m
message_view-roll = fold-roll-DescriptorProto MessageContent message_step

pub message_view-out : (m : DescriptorProto) → message_view m ≡ level_view (out-DescriptorProto m)
message_view-out = fold_out-DescriptorProto MessageContent message_step

-- two message types of one level's content have one content
pub same_level : (x : DescriptorProto-F DescriptorProto) (m : DescriptorProto) → level_view x ≡ level_view (out-DescriptorProto m) → message_view (roll-DescriptorProto x) ≡ message_view m
same_level x m h = message_view-roll x ∙ h ∙ sym (message_view-out m)
