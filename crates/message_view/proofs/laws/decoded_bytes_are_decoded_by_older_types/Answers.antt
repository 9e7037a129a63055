use Rattle.message_view.proofs.Decoded.{older_decodes}
use Rattle.message_view.proofs.laws.decoded_bytes_are_decoded_by_older_types.Goals as goal

pub returns : goal.returns
returns c = older_decodes
