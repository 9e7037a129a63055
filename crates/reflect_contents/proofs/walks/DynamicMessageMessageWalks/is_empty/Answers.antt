use Rattle.std.proofs.Common.{◌≡◌, [], not, sym, ap, ◌∙◌}
use Rattle.reflect_wire.specs.Views.{field_view}
use Rattle.reflect_message.specs.Held.{unknown_of}
use Rattle.reflect_contents.specs.Left.{records_left}
use Rattle.reflect_contents.specs.Walked.{extension_lent, extensions_left, field_lent, fields_left, in_pool, set_extensions_of, set_fields_of}
use Rattle.reflect_contents.proofs.Walking.{nothing_ahead, nothing_given, nothing_held, not_false}
use Rattle.reflect_contents.proofs.walks.DynamicMessageMessageWalks.is_empty.Goals as goal

pub returns : goal.returns
returns c =
    let m = c.args.self.now in
    let records : unknown_of m ≡ [] =
    sym c.unknown_fields.ensures ∙ nothing_ahead (λ r. field_view r.now) (records_left c.unknown_fields.result) (records_left c.next.new.self) c.next.result c.next.ensures.steps (sym c.is_some.ensures ∙ c.if-is_some.false) in
    let fields : set_fields_of m ≡ [] =
    nothing_held (λ h. (m.descriptor, h)) (set_fields_of m) (sym c.fields.ensures ∙ nothing_ahead field_lent (fields_left c.fields.result) (fields_left c.next-else-is_some.new.self) c.next-else-is_some.result c.next-else-is_some.ensures.steps (sym c.is_some-else-is_some.ensures ∙ c.if-is_some-2.false)) in
    let pool = m.descriptor.pool.now in
    let ahead = extensions_left c.extensions.result in
    let left = extensions_left c.next-2.new.self in (
      (λ empty. (fields, nothing_held (λ h. (pool, h)) (set_extensions_of m) (sym c.extensions.ensures ∙ nothing_ahead extension_lent ahead left c.next-2.result c.next-2.ensures.steps (c.is_none.ensures ∙ ap not empty)), records)),
      (λ held. not_false c.is_none.result (sym c.is_none.ensures ∙ nothing_given extension_lent ahead left c.next-2.result c.next-2.ensures.steps (c.extensions.ensures ∙ ap (in_pool pool) held.1))),
    )
