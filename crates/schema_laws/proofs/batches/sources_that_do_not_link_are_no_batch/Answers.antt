use Rattle.schema_laws.proofs.RefusedBatches.{no_batch}
use Rattle.schema_laws.proofs.batches.sources_that_do_not_link_are_no_batch.Goals as goal

pub returns : goal.returns
returns c = λ earlier old given e is pool (files, are, (typed, types, told, refused)).
    (files, typed, are, types, no_batch earlier old.pool typed e is pool.kept told refused)
