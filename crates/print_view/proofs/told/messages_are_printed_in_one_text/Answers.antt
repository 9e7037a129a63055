use Rattle.print_view.proofs.InOneText.{plain_once}
use Rattle.print_view.proofs.told.messages_are_printed_in_one_text.Goals as goal

pub returns : goal.returns
returns c = plain_once
