use Rattle.reflect_faults.proofs.LinesBack.{lead_back}
use Rattle.reflect_faults.proofs.laws.places_lead_back_to_their_bytes.Goals as goal

pub returns : goal.returns
returns c = lead_back
