use Rattle.print_view.proofs.PutBytes.{held_bytes}
use Rattle.print_view.proofs.bytes.values_are_held_in_bytes.Goals as goal

pub returns : goal.returns
returns c = held_bytes
