use Rattle.schema_laws.proofs.MadeOf.{made_held}
use Rattle.schema_laws.proofs.detour.schemas_of_sources_hold_their_options.Goals as goal

pub returns : goal.returns
returns c = made_held
