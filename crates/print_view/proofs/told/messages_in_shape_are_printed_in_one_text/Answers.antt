use Rattle.print_view.proofs.InOneText.{shaped_once}
use Rattle.print_view.proofs.told.messages_in_shape_are_printed_in_one_text.Goals as goal

pub returns : goal.returns
returns c = shaped_once
