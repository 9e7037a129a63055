use Rattle.std.proofs.Common.{string_bytes}
use Rattle.descriptor_records.specs.Content.{enum_value_view, options_view}
use Rattle.descriptor_records.proofs.Clones.{same_option, same_text, same_views}
use Rattle.descriptor_records.proofs.enums.EnumDescriptorProtoClone.clone.Goals as goal

pub returns : goal.returns
returns c = record {
  cases = cc (
    same_text c.args.self.now.name c.in_ok-clone.field-0 c.in_ok-clone.ensures.cases,
    same_views enum_value_view c.args.self.now.value.items c.in_ok-clone-2.field-0.items c.in_ok-clone-2.ensures.cases.0,
    same_option options_view c.args.self.now.options c.in_ok-clone-3.field-0 c.in_ok-clone-3.ensures.cases,
    c.in_ok-from_slice.ensures.items,
    same_views string_bytes c.args.self.now.reserved_name.items c.in_ok-clone-4.field-0.items c.in_ok-clone-4.ensures.cases.0,
  );
}
