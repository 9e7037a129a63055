use Rattle.valid_view.proofs.Solidly.{merged_solid}
use Rattle.valid_view.proofs.merged.merged_messages_are_solid.Goals as goal

pub returns : goal.returns
returns c = merged_solid
