use Rattle.std.proofs.Common.{◌≡◌, ◌∙◌, pos, ap, sym, rules}
use Rattle.std.specs.Option.{option_map}
use Rattle.std.specs.Vec.{with_item}
use Rattle.descriptor_records.specs.declared.message.DescriptorProto.TheViews.{out-DescriptorProto}
use Rattle.descriptor_records.specs.Content.{message_view, options_view}
use Rattle.reflect_growth.specs.Put.{message_put}
use Rattle.reflect_growth.proofs.Nested.{level_with, nested_put}
use Rattle.reflect_growth.proofs.Puts.{put_at, put_past}
use Rattle.reflect_growth.proofs.settle.+settle_message.Goals as goal

pub returns-in-Some-get_mut : goal.returns-in-Some-get_mut
returns-in-Some-get_mut t c =
    let m = out-DescriptorProto c.args.message.now in
    let o = options_view c.args.options in
    let h = message_put c.in-Some.rest.now o in
    let new = record m {
      nested_type = with_item m.nested_type c.in-Some.place c.settle_message.new.message;
    } in
    let nested = put_at message_view h m.nested_type.items c.in-Some.place
    c.settle_message.new.message c.in-Some-get_mut.child.now
    (c.settle_message.ensures ∙ ap (λ x. h (message_view x)) c.in-Some-get_mut.ensures.value) in
    let three : c.in-Some.number ≡ pos 3 = search rules in
    let step = sym c.first_step.ensures
    ∙ ap (option_map (λ s. (s.0, s.1, s.2.now))) c.in-Some.is in
    nested_put c.args.message.now new c.args.path.now c.in-Some.number c.in-Some.place
    c.in-Some.rest.now o three step (ap (level_with m) nested)

pub returns-in_default-get_mut : goal.returns-in_default-get_mut
returns-in_default-get_mut t c =
    let m = out-DescriptorProto c.args.message.now in
    let o = options_view c.args.options in
    let h = message_put c.in-Some.rest.now o in
    let nested = put_past message_view h m.nested_type.items c.in-Some.place (search rules) in
    let three : c.in-Some.number ≡ pos 3 = search rules in
    let step = sym c.first_step.ensures
    ∙ ap (option_map (λ s. (s.0, s.1, s.2.now))) c.in-Some.is in
    nested_put c.args.message.now m c.args.path.now c.in-Some.number c.in-Some.place
    c.in-Some.rest.now o three step (ap (level_with m) nested)
