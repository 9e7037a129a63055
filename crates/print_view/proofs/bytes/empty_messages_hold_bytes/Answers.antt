use Rattle.print_view.proofs.PutBytes.{empty_bytes}
use Rattle.print_view.proofs.bytes.empty_messages_hold_bytes.Goals as goal

pub returns : goal.returns
returns c = empty_bytes
