use Rattle.protox_laws.proofs.WorkedGaps.{all_cut}
use Rattle.protox_laws.proofs.worked.worked_gaps_have_their_comments.Goals as goal

pub returns : goal.returns
returns c = all_cut
