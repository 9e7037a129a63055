use Rattle.protobuf_model.proofs.Bytewise.{bytes_mean}
use Rattle.text_laws.proofs.Suited.{given_suits}
use Rattle.text_laws.proofs.laws.given_messages_have_bytes.Goals as goal

pub returns : goal.returns
returns c w sound t z m h short = bytes_mean w.types t m (given_suits w sound t z m h) short
