use Rattle.settled_records.proofs.Becomes.{file_becomes}
use Rattle.settled_records.proofs.records.entities_stay_with_what_their_options_settle_to.Goals as goal

pub returns : goal.returns
returns c = file_becomes
