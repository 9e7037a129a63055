use Rattle.schema_laws.proofs.Batch.{holds_more}
use Rattle.schema_laws.proofs.own_records.settled_sources_hold_their_options.Goals as goal

pub returns : goal.returns
returns c earlier old linked new files was kept whole sound names faultless settles changes given held alike done =
    let m = holds_more earlier old linked new files was kept whole sound names faultless settles changes given held alike done in
    (m.linking, m.of, m.built, m.held, m.alike)
