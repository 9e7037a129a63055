use Rattle.descriptor_records.specs.Content.{options_view}
use Rattle.descriptor_records.proofs.Clones.{same_option, same_text}
use Rattle.descriptor_records.proofs.enums.EnumValueDescriptorProtoClone.clone.Goals as goal

pub returns : goal.returns
returns c = record {
  cases = cc (
    same_text c.args.self.now.name c.in_ok-clone.field-0 c.in_ok-clone.ensures.cases,
    same_option options_view c.args.self.now.options c.in_ok-clone-2.field-0 c.in_ok-clone-2.ensures.cases,
  );
}
