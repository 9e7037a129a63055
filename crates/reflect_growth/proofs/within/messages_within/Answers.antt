use Rattle.std.proofs.Common.{rules}
use Rattle.std.proofs.lemmas.Bool.Decides.{not_from_Decides}
use Rattle.reflect_tables.specs.Types.{MessageWithin}
use Rattle.reflect_tables.specs.Views.{message_of}
use Rattle.reflect_growth.proofs.More.{one_fails, one_more}
use Rattle.reflect_growth.proofs.within.messages_within.Goals as goal

-- the next message is within, as those before are
pub loop-message-preserved : goal.loop-message-preserved
loop-message-preserved c =
    one_more (MessageWithin c.args.counts) message_of c.args.items.now c.loop-message.message-index c.message-item.result (search) (search) c.loop-message.invariant (c.message_within.ensures.0 (search))

-- the message is not within
pub returns-then-not-message_within : goal.returns-then-not-message_within
returns-then-not-message_within c =
    one_fails (MessageWithin c.args.counts) message_of c.args.items.now c.loop-message.message-index c.message-item.result (search) (search) (not_from_Decides c.message_within.result c.message_within.ensures (search rules))
