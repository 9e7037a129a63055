use Rattle.reflect_scalar.proofs.ReadBack.{read_back}
use Rattle.reflect_scalar.proofs.laws.written_value_is_read.Goals as goal

pub returns : goal.returns
returns c = read_back
