use Rattle.std.proofs.Common.{None, ap, ◌∙◌, subst}
use Rattle.reflect_entries.specs.Entries.{Updates, value_at}
use Rattle.reflect_message.proofs.Taking.{as_held, nothing_held, all_taken, none_taken}
use Rattle.reflect_message.proofs.content.take.Goals as goal

pub returns-then-is_set-clause-updates : goal.returns-then-is_set-clause-updates
returns-then-is_set-clause-updates g c = subst (λ n. Updates c.args.content.now c.take-held.new.self n None) c.number.ensures c.take-held.ensures.updates

pub returns-then-is_set-clause-held : goal.returns-then-is_set-clause-held
returns-then-is_set-clause-held g c = as_held c.take-held.result _ (c.take-held.ensures.value ∙ ap (value_at c.args.content.now) c.number.ensures)

pub returns-then-is_set-clause-presence : goal.returns-then-is_set-clause-presence
returns-then-is_set-clause-presence g c = λ presence. c.take-held.ensures.value ∙ ap (value_at c.args.content.now) c.number.ensures

pub returns-then-is_set-clause-taken : goal.returns-then-is_set-clause-taken
returns-then-is_set-clause-taken g c =
    let here = c.take-held.ensures.value ∙ ap (value_at c.args.content.now) c.number.ensures in
    all_taken (g.F.FieldDescriptorLike.pool c.args.field.now) (g.F.FieldDescriptorLike.says c.args.field.now) c.take-held.result _ _ _ here c.as_ref.ensures.value c.is_set.ensures.set c.if-is_set.true

pub returns-clause-updates : goal.returns-clause-updates
returns-clause-updates g c = subst (λ n. Updates c.args.content.now c.take-held.new.self n None) c.number.ensures c.take-held.ensures.updates

pub returns-clause-presence : goal.returns-clause-presence
returns-clause-presence g c = λ presence.
    let here = c.take-held.ensures.value ∙ ap (value_at c.args.content.now) c.number.ensures in
    nothing_held c.as_ref.result c.take-held.result _ c.as_ref.ensures.variant (c.is_set.ensures.presence presence) c.if-is_set.false ∙ here

pub returns-clause-taken : goal.returns-clause-taken
returns-clause-taken g c =
    let here = c.take-held.ensures.value ∙ ap (value_at c.args.content.now) c.number.ensures in
    none_taken (g.F.FieldDescriptorLike.pool c.args.field.now) (g.F.FieldDescriptorLike.says c.args.field.now) c.take-held.result _ _ _ here c.as_ref.ensures.value c.is_set.ensures.set c.if-is_set.false
