use Rattle.descriptor_records.specs.Content.{file_view}
use Rattle.descriptor_records.proofs.Clones.{same_views}
use Rattle.descriptor_records.proofs.file.FileDescriptorSetClone.clone.Goals as goal

pub returns : goal.returns
returns c = record { cases = same_views file_view c.args.self.now.file.items c.in_ok-clone.field-0.items c.in_ok-clone.ensures.cases.0 }
