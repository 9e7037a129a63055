use Rattle.message_view.proofs.Decoded.{decoded_means}
use Rattle.message_view.proofs.laws.decoded_bytes_mean_the_message.Goals as goal

pub returns : goal.returns
returns c = decoded_means
