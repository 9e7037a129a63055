use Rattle.std.proofs.Common.{string_bytes}
use Rattle.std.specs.List.{each_same}
use Rattle.descriptor_records.specs.Content.{enum_view, field_view, options_view, service_view, source_info_view}
use Rattle.descriptor_records.proofs.Clones.{same_option, same_text, same_views}
use Rattle.descriptor_records.proofs.file.FileDescriptorProtoClone.clone.Goals as goal

pub returns : goal.returns
returns c = record {
  cases = simp (
    same_text c.args.self.now.name c.in_ok-clone.field-0 c.in_ok-clone.ensures.cases,
    same_text c.args.self.now.package c.in_ok-clone-2.field-0 c.in_ok-clone-2.ensures.cases,
    same_views string_bytes c.args.self.now.dependency.items c.in_ok-clone-3.field-0.items c.in_ok-clone-3.ensures.cases.0,
    each_same c.args.self.now.public_dependency.items c.in_ok-clone-4.field-0.items c.in_ok-clone-4.ensures.cases.0,
    each_same c.args.self.now.weak_dependency.items c.in_ok-clone-5.field-0.items c.in_ok-clone-5.ensures.cases.0,
    c.in_ok-clone_messages.ensures,
    same_views enum_view c.args.self.now.enum_type.items c.in_ok-clone-6.field-0.items c.in_ok-clone-6.ensures.cases.0,
    same_views service_view c.args.self.now.service.items c.in_ok-clone-7.field-0.items c.in_ok-clone-7.ensures.cases.0,
    same_views field_view c.args.self.now.extension.items c.in_ok-clone-8.field-0.items c.in_ok-clone-8.ensures.cases.0,
    same_option options_view c.args.self.now.options c.in_ok-clone-9.field-0 c.in_ok-clone-9.ensures.cases,
    same_option source_info_view c.args.self.now.source_code_info c.in_ok-clone-10.field-0 c.in_ok-clone-10.ensures.cases,
    same_text c.args.self.now.syntax c.in_ok-clone-11.field-0 c.in_ok-clone-11.ensures.cases,
  );
}
