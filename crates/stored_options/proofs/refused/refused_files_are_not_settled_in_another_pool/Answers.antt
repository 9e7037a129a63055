use Rattle.std.proofs.Common.{Some}
use Rattle.stored_options.proofs.RefusedFiles.{pool_refused}
use Rattle.stored_options.proofs.TwinBatches.{twins_built}
use Rattle.stored_options.proofs.refused.refused_files_are_not_settled_in_another_pool.Goals as goal

pub returns : goal.returns
returns c batches pool other new first place e a b whole whole_too sound also same refuses settles =
    pool_refused pool other new first (Some place) e whole whole_too (twins_built batches pool other a b whole whole_too same sound also) same
    (λ scope can. refuses.0 scope) refuses settles
