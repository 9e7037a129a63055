use Rattle.std.proofs.Common.{refl}
use Rattle.descriptor_records.specs.Content.{options_view}
use Rattle.settled_records.proofs.Said.{view_says}
use Rattle.settled_records.proofs.said_bytes.settled_options_say_their_bytes.Goals as goal

pub returns : goal.returns
returns c = λ scope s o settled paths sound can is.
    view_says scope s o (options_view settled) paths sound can is settled refl
