use Rattle.schema_laws.proofs.OneOrder.{same_histories}
use Rattle.schema_laws.proofs.SameRecords.{same_but_for_places}
use Rattle.schema_laws.proofs.orders.sources_of_the_same_tokens_hold_the_same_options.Goals as goal

pub returns : goal.returns
returns c = λ batches others s t made also same.
    let h = same_histories batches others s t made also same in
    same_but_for_places h.0 h.1 s t h.2 h.3 h.4
