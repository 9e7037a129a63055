use Rattle.std.proofs.Common.{cond, Option, Some, None, sym, ap, ◌∙◌}
use Rattle.reflect_scalar.specs.FieldTypes.{extension_type}
use Rattle.reflect_contents.specs.Walked.{Holding}
use Rattle.reflect_contents.proofs.Walking.{no_extension_set, extension_set}
use Rattle.reflect_contents.proofs.walks.extension_if_set.Goals as goal

pub returns-then-is_present-clause-set : goal.returns-then-is_present-clause-set
returns-then-is_present-clause-set c =
    let x = c.in-Some.extension in
    let here : Option Holding = Some (extension_type x, c.args.value.now) in
    sym (extension_set c.args.descriptor c.args.number c.args.value.now x c.in-Some.ensures.extendee.0 c.in-Some.ensures.finds c.is_present.result c.is_present.ensures.set
    ∙ ap (λ b. cond b here None) c.if-is_present.true)

pub returns-else-is_present-clause-set : goal.returns-else-is_present-clause-set
returns-else-is_present-clause-set c =
    let x = c.in-Some.extension in
    let here : Option Holding = Some (extension_type x, c.args.value.now) in
    sym (extension_set c.args.descriptor c.args.number c.args.value.now x c.in-Some.ensures.extendee.0 c.in-Some.ensures.finds c.is_present.result c.is_present.ensures.set
    ∙ ap (λ b. cond b here None) c.if-is_present.false)

pub returns-in-None-clause-set : goal.returns-in-None-clause-set
returns-in-None-clause-set c = sym (no_extension_set c.args.descriptor c.args.number c.args.value.now c.in-None.ensures.finds)
