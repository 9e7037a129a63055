use Rattle.std.proofs.Common.{◌∙◌, ap, rules}
use Rattle.descriptor_records.specs.Content.{MethodContent, method_view, options_view}
use Rattle.reflect_growth.specs.Put.{method_put}
use Rattle.reflect_growth.proofs.Puts.{put_at, put_past}
use Rattle.reflect_growth.proofs.settle.settle_method.Goals as goal

pub returns-in-Some : goal.returns-in-Some
returns-in-Some c =
    let was = c.in-Some.method.now in
    let h = method_put c.args.rest.now (options_view c.args.options) in
    put_at method_view h c.args.methods.now.items c.args.place _ was
    (ap {B = MethodContent} (λ o. record (method_view was) { options = o }) c.settle_own.ensures
    ∙ ap (λ x. h (method_view x)) c.in-Some.ensures.value)

pub returns-in_default : goal.returns-in_default
returns-in_default c =
    let h = method_put c.args.rest.now (options_view c.args.options) in
    put_past method_view h c.args.methods.now.items c.args.place (search rules)
