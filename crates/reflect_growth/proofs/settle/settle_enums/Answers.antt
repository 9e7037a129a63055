use Rattle.std.proofs.Common.{◌∙◌, ap, rules}
use Rattle.descriptor_records.specs.Content.{enum_view, options_view}
use Rattle.reflect_growth.specs.Put.{enum_put}
use Rattle.reflect_growth.proofs.Puts.{put_at, put_past}
use Rattle.reflect_growth.proofs.settle.settle_enums.Goals as goal

pub returns-in-Some : goal.returns-in-Some
returns-in-Some c =
    let h = enum_put c.args.rest.now (options_view c.args.options) in
    put_at enum_view h c.args.enums.now.items c.args.place _ c.in-Some.enumeration.now
    (c.settle_enum.ensures ∙ ap (λ x. h (enum_view x)) c.in-Some.ensures.value)

pub returns-in_default : goal.returns-in_default
returns-in_default c =
    let h = enum_put c.args.rest.now (options_view c.args.options) in
    put_past enum_view h c.args.enums.now.items c.args.place (search rules)
