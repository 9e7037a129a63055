use Rattle.std.proofs.Common.{◌∙◌, ap, rules}
use Rattle.descriptor_records.specs.Content.{OneofContent, oneof_view, options_view}
use Rattle.reflect_growth.specs.Put.{oneof_put}
use Rattle.reflect_growth.proofs.Puts.{put_at, put_past}
use Rattle.reflect_growth.proofs.settle.settle_oneof.Goals as goal

pub returns-in-Some : goal.returns-in-Some
returns-in-Some c =
    let was = c.in-Some.oneof.now in
    let h = oneof_put c.args.rest.now (options_view c.args.options) in
    put_at oneof_view h c.args.oneofs.now.items c.args.place _ was
    (ap {B = OneofContent} (λ o. record (oneof_view was) { options = o }) c.settle_own.ensures
    ∙ ap (λ x. h (oneof_view x)) c.in-Some.ensures.value)

pub returns-in_default : goal.returns-in_default
returns-in_default c =
    let h = oneof_put c.args.rest.now (options_view c.args.options) in
    put_past oneof_view h c.args.oneofs.now.items c.args.place (search rules)
