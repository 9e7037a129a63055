use Rattle.std.proofs.Common.{rules}
use Rattle.std.proofs.lemmas.Bool.Decides.{not_from_Decides}
use Rattle.reflect_tables.specs.Types.{HoldsWithin}
use Rattle.reflect_tables.specs.Views.{message_of}
use Rattle.reflect_growth.proofs.More.{one_fails}
use Rattle.reflect_growth.proofs.within.hold_within.Goals as goal

-- the message holds what is not there
pub returns-then-not-children_within : goal.returns-then-not-children_within
returns-then-not-children_within c =
    one_fails (HoldsWithin c.args.counts) message_of c.args.items.now c.loop-message.message-index c.message-item.result (search) (search) (not_from_Decides c.children_within.result c.children_within.ensures (search rules))
