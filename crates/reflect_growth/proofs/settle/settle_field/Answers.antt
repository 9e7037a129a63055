use Rattle.std.proofs.Common.{◌∙◌, ap, rules}
use Rattle.descriptor_records.specs.Content.{FieldContent, field_view, options_view}
use Rattle.reflect_growth.specs.Put.{field_put}
use Rattle.reflect_growth.proofs.Puts.{put_at, put_past}
use Rattle.reflect_growth.proofs.settle.settle_field.Goals as goal

pub returns-in-Some : goal.returns-in-Some
returns-in-Some c =
    let was = c.in-Some.field.now in
    let h = field_put c.args.rest.now (options_view c.args.options) in
    put_at field_view h c.args.fields.now.items c.args.place _ was
    (ap {B = FieldContent} (λ o. record (field_view was) { options = o }) c.settle_own.ensures
    ∙ ap (λ x. h (field_view x)) c.in-Some.ensures.value)

pub returns-in_default : goal.returns-in_default
returns-in_default c =
    let h = field_put c.args.rest.now (options_view c.args.options) in
    put_past field_view h c.args.fields.now.items c.args.place (search rules)
