use Rattle.descriptor_records.specs.Content.{options_view}
use Rattle.descriptor_records.proofs.Clones.{same_option}
use Rattle.descriptor_records.proofs.message.ExtensionRangeClone.clone.Goals as goal

pub returns : goal.returns
returns c = record {
  cases = cc (
      same_option options_view c.args.self.now.options c.in_ok-clone.field-0 c.in_ok-clone.ensures.cases
      );
}
