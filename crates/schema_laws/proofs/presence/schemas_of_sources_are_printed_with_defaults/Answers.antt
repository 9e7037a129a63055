use Rattle.schema_laws.proofs.PresentMessages.{made_present, printed_present}
use Rattle.schema_laws.proofs.ReadUnset.{made_unset}
use Rattle.schema_laws.proofs.presence.schemas_of_sources_are_printed_with_defaults.Goals as goal

pub returns : goal.returns
returns c = λ batches s is. (printed_present s.pool (made_present batches s is), made_unset batches s is)
