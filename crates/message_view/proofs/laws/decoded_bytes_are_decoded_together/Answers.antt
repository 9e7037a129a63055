use Rattle.message_view.proofs.Decoded.{pieces_decode}
use Rattle.message_view.proofs.laws.decoded_bytes_are_decoded_together.Goals as goal

pub returns : goal.returns
returns c = pieces_decode
