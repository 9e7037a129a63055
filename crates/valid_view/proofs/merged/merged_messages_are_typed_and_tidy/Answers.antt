use Rattle.valid_view.proofs.Decoded.{merged_both}
use Rattle.valid_view.proofs.merged.merged_messages_are_typed_and_tidy.Goals as goal

pub returns : goal.returns
returns c = merged_both
