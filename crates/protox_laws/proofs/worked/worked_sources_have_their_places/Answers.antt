use Rattle.protox_laws.proofs.WorkedPlaces.{all_placed}
use Rattle.protox_laws.proofs.worked.worked_sources_have_their_places.Goals as goal

pub returns : goal.returns
returns c = all_placed
