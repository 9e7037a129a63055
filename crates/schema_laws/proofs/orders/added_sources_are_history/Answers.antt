use Rattle.schema_laws.proofs.Histories.{new_batch}
use Rattle.schema_laws.proofs.orders.added_sources_are_history.Goals as goal

pub returns : goal.returns
returns c = λ earlier old new given made pool linked.
    let b = new_batch old.pool new.pool given linked in
    (b.0, b.1, (old, made, record { given = given; linked = linked; files = b.1 }, pool))
