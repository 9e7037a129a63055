use Rattle.schema_laws.proofs.Encoding.{accepted}
use Rattle.schema_laws.proofs.Refusing.{bytes_taken, not_unknown}
use Rattle.schema_laws.proofs.TextsAlike.{no_message}
use Rattle.schema_laws.proofs.texts.encoded_bytes_are_decoded.Goals as goal

pub returns : goal.returns
returns c = λ s name text out encodes short.
    let means = (accepted s.pool s.sound no_message name text out encodes short).2 in
    bytes_taken s.pool s.sound name out (not_unknown s.pool name (encodes.0.index, encodes.1.1)) (means.0, means.1)
