use Rattle.std.proofs.Common.{map}
use Rattle.descriptor_records.specs.Content.{file_view}
use Rattle.schema_view.proofs.Batches.{same_view}
use Rattle.settled_view.proofs.laws.settled_batches_in_another_order.Goals as goal

pub returns : goal.returns
returns c = λ batches others p q plain same a b.
    same_view batches others (map file_view a.linked.records) (map file_view b.linked.records) plain
    same a.built.built b.built.built
