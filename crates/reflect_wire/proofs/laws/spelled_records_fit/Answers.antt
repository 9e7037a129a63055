use Rattle.reflect_wire.proofs.Spelling.{records_fit}
use Rattle.reflect_wire.proofs.laws.spelled_records_fit.Goals as goal

pub returns : goal.returns
returns c = records_fit
