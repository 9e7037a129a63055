use Rattle.print_view.proofs.PutBytes.{unset_bytes}
use Rattle.print_view.proofs.bytes.unset_messages_hold_bytes.Goals as goal

pub returns : goal.returns
returns c = unset_bytes
