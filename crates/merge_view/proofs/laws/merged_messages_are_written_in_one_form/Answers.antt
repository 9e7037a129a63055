use Rattle.merge_view.proofs.Decoded.{merged_written}
use Rattle.merge_view.proofs.laws.merged_messages_are_written_in_one_form.Goals as goal

pub returns : goal.returns
returns c = merged_written
