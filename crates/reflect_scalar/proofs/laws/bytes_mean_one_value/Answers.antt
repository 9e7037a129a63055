use Rattle.reflect_scalar.proofs.ReadBack.{one_value}
use Rattle.reflect_scalar.proofs.laws.bytes_mean_one_value.Goals as goal

pub returns : goal.returns
returns c = one_value
