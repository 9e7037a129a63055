use Rattle.protox_parse.proofs.Answered.{not_refused}
use Rattle.protox_parse.proofs.laws.older_sources_stay_clean.Goals as goal

pub returns : goal.returns
returns c = not_refused
