use Rattle.schema_laws.proofs.AddedBatches.{linked_batch}
use Rattle.schema_laws.proofs.batches.added_sources_are_a_batch.Goals as goal

pub returns : goal.returns
returns c = λ earlier old new given is pool (files, are, linked).
    let b = linked_batch earlier old.pool new.pool files is pool linked in
    (files, b.typed, b.linking, are, b.types, b.of, b.built)
