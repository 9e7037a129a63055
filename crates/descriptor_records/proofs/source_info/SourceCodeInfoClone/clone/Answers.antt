use Rattle.descriptor_records.specs.Content.{location_view}
use Rattle.descriptor_records.proofs.Clones.{same_views}
use Rattle.descriptor_records.proofs.source_info.SourceCodeInfoClone.clone.Goals as goal

pub returns : goal.returns
returns c = record { cases = same_views location_view c.args.self.now.location.items c.in_ok-clone.field-0.items c.in_ok-clone.ensures.cases.0 }
