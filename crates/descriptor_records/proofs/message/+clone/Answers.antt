use Rattle.std.proofs.Common.{◌≡◌, ◌∙◌, map, string_bytes}
use Rattle.descriptor_records.specs.Content.{message_view, field_view, enum_view, extension_range_view, oneof_view, options_view}
use Rattle.descriptor_records.specs.declared.message.DescriptorProto.TheViews.{out-DescriptorProto}
use Rattle.descriptor_records.proofs.Clones.{same_views, same_option, same_text}
use Rattle.descriptor_records.proofs.Messages.{same_level}
use Rattle.descriptor_records.proofs.message.+clone.Goals as goal

pub DescriptorProto::clone-returns : goal.DescriptorProto::clone-returns
DescriptorProto::clone-returns t c =
    let o = out-DescriptorProto c.args.self.now in
    let nested : map message_view c.in_ok-clone_messages.field-0.items ≡ map message_view o.nested_type.items = c.in_ok-clone_messages.ensures in
    let ranges : c.in_ok-from_slice.field-0.items ≡ o.reserved_range.items = c.in_ok-from_slice.ensures.items ∙ c.deref.ensures.value in
    same_level _ c.args.self.now (simp (
      nested,
      ranges,
      same_text o.name c.in_ok-clone.field-0 c.in_ok-clone.ensures.cases,
      same_views field_view o.field.items c.in_ok-clone-2.field-0.items c.in_ok-clone-2.ensures.cases.0,
      same_views field_view o.extension.items c.in_ok-clone-3.field-0.items c.in_ok-clone-3.ensures.cases.0,
      same_views enum_view o.enum_type.items c.in_ok-clone-4.field-0.items c.in_ok-clone-4.ensures.cases.0,
      same_views extension_range_view o.extension_range.items c.in_ok-clone-5.field-0.items c.in_ok-clone-5.ensures.cases.0,
      same_views oneof_view o.oneof_decl.items c.in_ok-clone-6.field-0.items c.in_ok-clone-6.ensures.cases.0,
      same_option options_view o.options c.in_ok-clone-7.field-0 c.in_ok-clone-7.ensures.cases,
      same_views string_bytes o.reserved_name.items c.in_ok-clone-8.field-0.items c.in_ok-clone-8.ensures.cases.0,
    ))
