use Rattle.print_view.proofs.OneDecoder.{decoder}
use Rattle.print_view.proofs.decoder.pools_have_a_decoder.Goals as goal

pub returns : goal.returns
returns c = decoder
