use Rattle.std.proofs.Common.{◌∙◌, ap, rules}
use Rattle.descriptor_records.specs.Content.{service_view, options_view}
use Rattle.reflect_growth.specs.Put.{service_put}
use Rattle.reflect_growth.proofs.Puts.{put_at, put_past}
use Rattle.reflect_growth.proofs.settle.settle_services.Goals as goal

pub returns-in-Some : goal.returns-in-Some
returns-in-Some c =
    let h = service_put c.args.rest.now (options_view c.args.options) in
    put_at service_view h c.args.services.now.items c.args.place _ c.in-Some.service.now
    (c.settle_service.ensures ∙ ap (λ x. h (service_view x)) c.in-Some.ensures.value)

pub returns-in_default : goal.returns-in_default
returns-in_default c =
    let h = service_put c.args.rest.now (options_view c.args.options) in
    put_past service_view h c.args.services.now.items c.args.place (search rules)
