use Rattle.schema_laws.proofs.More.{files_copied, reads_more}
use Rattle.schema_laws.proofs.own_records.settled_files_are_read_alike.Goals as goal

pub returns : goal.returns
returns c earlier old linked new files typed was whole sound names reads copied faultless settles changes alike =
    let m = reads_more earlier old linked new typed was whole sound names faultless settles changes (files_copied files typed reads copied) alike in
    (m.linking, m.of, m.built, m.alike)
