use Rattle.schema_laws.proofs.EncodedOptions.{bytes_lie, held_encoded}
use Rattle.schema_laws.proofs.braces.options_in_braces_hold_what_their_text_encodes_to.Goals as goal

pub returns-clause-message : goal.returns-clause-message
returns-clause-message c = held_encoded

pub returns-clause-bytes : goal.returns-clause-bytes
returns-clause-bytes c = bytes_lie
