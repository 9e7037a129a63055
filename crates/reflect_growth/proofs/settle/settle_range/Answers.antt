use Rattle.std.proofs.Common.{◌∙◌, ap, rules}
use Rattle.descriptor_records.specs.Content.{ExtensionRangeContent, extension_range_view, options_view}
use Rattle.reflect_growth.specs.Put.{range_put}
use Rattle.reflect_growth.proofs.Puts.{put_at, put_past}
use Rattle.reflect_growth.proofs.settle.settle_range.Goals as goal

pub returns-in-Some : goal.returns-in-Some
returns-in-Some c =
    let was = c.in-Some.range.now in
    let h = range_put c.args.rest.now (options_view c.args.options) in
    put_at extension_range_view h c.args.ranges.now.items c.args.place _ was
    (ap {B = ExtensionRangeContent} (λ o. record (extension_range_view was) { options = o }) c.settle_own.ensures
    ∙ ap (λ x. h (extension_range_view x)) c.in-Some.ensures.value)

pub returns-in_default : goal.returns-in_default
returns-in_default c =
    let h = range_put c.args.rest.now (options_view c.args.options) in
    put_past extension_range_view h c.args.ranges.now.items c.args.place (search rules)
