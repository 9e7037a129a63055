use Rattle.reflect_wire.proofs.Spelling.{records_spelled}
use Rattle.reflect_wire.proofs.laws.written_records_are_spelled.Goals as goal

pub returns : goal.returns
returns c = records_spelled
