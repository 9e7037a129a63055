use Rattle.text_view.proofs.Any.{any_is}
use Rattle.text_view.proofs.laws.the_type_of_any_message_is_told.Goals as goal

pub returns : goal.returns
returns c = any_is
