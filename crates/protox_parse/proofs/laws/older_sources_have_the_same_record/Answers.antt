use Rattle.protox_parse.proofs.Answered.{same_record}
use Rattle.protox_parse.proofs.laws.older_sources_have_the_same_record.Goals as goal

pub returns : goal.returns
returns c = same_record
