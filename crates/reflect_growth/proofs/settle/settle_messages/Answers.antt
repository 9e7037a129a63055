use Rattle.std.proofs.Common.{◌∙◌, ap, rules}
use Rattle.descriptor_records.specs.Content.{message_view, options_view}
use Rattle.reflect_growth.specs.Put.{message_put}
use Rattle.reflect_growth.proofs.Puts.{put_at, put_past}
use Rattle.reflect_growth.proofs.settle.settle_messages.Goals as goal

pub returns-in-Some : goal.returns-in-Some
returns-in-Some c =
    let h = message_put c.args.rest.now (options_view c.args.options) in
    put_at message_view h c.args.messages.now.items c.args.place _ c.in-Some.message.now
    (c.settle_message.ensures ∙ ap (λ x. h (message_view x)) c.in-Some.ensures.value)

pub returns-in_default : goal.returns-in_default
returns-in_default c =
    let h = message_put c.args.rest.now (options_view c.args.options) in
    put_past message_view h c.args.messages.now.items c.args.place (search rules)
