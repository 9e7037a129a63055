use Rattle.known_messages.proofs.Grown.{forms_stay}
use Rattle.known_messages.proofs.laws.written_bytes_stay_as_types_grow.Goals as goal

pub returns : goal.returns
returns c = forms_stay
