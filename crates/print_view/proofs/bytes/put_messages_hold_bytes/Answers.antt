use Rattle.print_view.proofs.PutBytes.{put_bytes}
use Rattle.print_view.proofs.bytes.put_messages_hold_bytes.Goals as goal

pub returns : goal.returns
returns c = put_bytes
