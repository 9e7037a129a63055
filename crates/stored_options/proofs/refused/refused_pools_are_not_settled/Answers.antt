use Rattle.std.proofs.Common.{refl}
use Rattle.stored_options.proofs.RefusedFiles.{pool_refused}
use Rattle.stored_options.proofs.TwinPools.{twins_itself}
use Rattle.stored_options.proofs.refused.refused_pools_are_not_settled.Goals as goal

pub returns : goal.returns
returns c pool new first place e whole sound refuses settles =
    pool_refused pool pool new first place e whole whole (twins_itself pool sound) refl (λ scope can. can) refuses settles
