use Rattle.message_view.proofs.Recoded.{recoded_equal}
use Rattle.message_view.proofs.laws.recoded_bytes_are_equal_where_messages_are.Goals as goal

pub returns : goal.returns
returns c = recoded_equal
