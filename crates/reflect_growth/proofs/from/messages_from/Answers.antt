use Rattle.std.proofs.Common.{arith, ◌≤◌}
use Rattle.reflect_tables.specs.Views.{message_of}
use Rattle.reflect_growth.proofs.More.{one_fails}
use Rattle.reflect_growth.proofs.from.messages_from.Goals as goal

-- the message is declared before
pub returns-then-message-first : goal.returns-then-message-first
returns-then-message-first c =
    let before = c.if-message-first.true in
    one_fails (λ x. c.args.first ≤ x.file) message_of c.args.items.now c.loop-message.message-index c.message-item.result (search) (search) (λ from. absurd (omega (arith, before, from)))
