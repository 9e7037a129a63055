use Rattle.std.proofs.Common.{cond, Option, Some, None, sym, ap, ◌∙◌}
use Rattle.reflect_pool.specs.FieldsLeft.{field_type}
use Rattle.reflect_contents.specs.Walked.{Holding}
use Rattle.reflect_contents.proofs.Walking.{no_field_set, field_set}
use Rattle.reflect_contents.proofs.walks.field_if_set.Goals as goal

pub returns-then-is_present-clause-set : goal.returns-then-is_present-clause-set
returns-then-is_present-clause-set c =
    let f = c.in-Some.field in
    let here : Option Holding = Some (field_type f, c.args.value.now) in
    sym (field_set c.args.descriptor c.args.number c.args.value.now f c.in-Some.ensures.message c.in-Some.ensures.first c.is_present.result c.is_present.ensures.set
    ∙ ap (λ b. cond b here None) c.if-is_present.true)

pub returns-else-is_present-clause-set : goal.returns-else-is_present-clause-set
returns-else-is_present-clause-set c =
    let f = c.in-Some.field in
    let here : Option Holding = Some (field_type f, c.args.value.now) in
    sym (field_set c.args.descriptor c.args.number c.args.value.now f c.in-Some.ensures.message c.in-Some.ensures.first c.is_present.result c.is_present.ensures.set
    ∙ ap (λ b. cond b here None) c.if-is_present.false)

pub returns-in-None-clause-set : goal.returns-in-None-clause-set
returns-in-None-clause-set c = sym (no_field_set c.args.descriptor c.args.number c.args.value.now c.in-None.ensures.first)
