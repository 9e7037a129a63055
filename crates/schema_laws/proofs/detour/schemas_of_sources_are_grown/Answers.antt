use Rattle.schema_laws.proofs.Grown.{made_grown}
use Rattle.schema_laws.proofs.detour.schemas_of_sources_are_grown.Goals as goal

pub returns : goal.returns
returns c = made_grown
