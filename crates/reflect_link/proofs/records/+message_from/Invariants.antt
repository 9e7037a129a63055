use Rattle.std.proofs.Common.{length}
use Rattle.reflect_link.proofs.records.+message_from.Given as goal

abbrev pub decreases-message_from : goal.decreases-message_from
decreases-message_from l = length l.path.now
