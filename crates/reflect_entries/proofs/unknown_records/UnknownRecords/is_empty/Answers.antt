-- Records without a set are none, and a set has records.
use Rattle.std.proofs.Common.{ap, length}
use Rattle.reflect_entries.specs.Sets.{records_in}
use Rattle.reflect_entries.proofs.Sets.{none_in, empty_of}
use Rattle.reflect_entries.proofs.unknown_records.UnknownRecords.is_empty.Goals as goal

pub returns : goal.returns
returns c =
    let sets = c.args.self.now.sets.entries in
    (λ t. ap records_in (empty_of sets (c.is_empty.ensures.0 t)), λ e. c.is_empty.ensures.1 (ap length (none_in sets c.args.self.now.grouped e)))
