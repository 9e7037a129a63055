use Rattle.std.proofs.Common.{◌∙◌, ap, rules}
use Rattle.descriptor_records.specs.Content.{EnumValueContent, enum_value_view, options_view}
use Rattle.reflect_growth.specs.Put.{value_put}
use Rattle.reflect_growth.proofs.Puts.{put_at, put_past}
use Rattle.reflect_growth.proofs.settle.settle_value.Goals as goal

pub returns-in-Some : goal.returns-in-Some
returns-in-Some c =
    let was = c.in-Some.value.now in
    let h = value_put c.args.rest.now (options_view c.args.options) in
    put_at enum_value_view h c.args.values.now.items c.args.place _ was
    (ap {B = EnumValueContent} (λ o. record (enum_value_view was) { options = o }) c.settle_own.ensures
    ∙ ap (λ x. h (enum_value_view x)) c.in-Some.ensures.value)

pub returns-in_default : goal.returns-in_default
returns-in_default c =
    let h = value_put c.args.rest.now (options_view c.args.options) in
    put_past enum_value_view h c.args.values.now.items c.args.place (search rules)
