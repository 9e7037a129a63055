use Rattle.std.proofs.Common.{◌∙◌, inr, sym}
use Rattle.reflect_format.proofs.Faults.{rival_told, set_told}
use Rattle.reflect_format.proofs.Filling.{cause}
use Rattle.reflect_format.proofs.Telling.{oneof_told}
use Rattle.reflect_format.proofs.parser.refuse_second.Goals as goal

pub returns-in_ok-oneof_already_set-in-Some-clause-refused : goal.returns-in_ok-oneof_already_set-in-Some-clause-refused
returns-in_ok-oneof_already_set-in-Some-clause-refused c =
    oneof_told c.args.message.now c.args.target c.in-Some.oneof c.in_ok-oneof_already_set-in-Some.field-0 c.in-Some.ensures.set.0 c.in-Some.ensures.set.1 c.in_ok-oneof_already_set-in-Some.ensures.told

pub returns-in_ok-oneof_already_set-in-Some-clause-cause :
    goal.returns-in_ok-oneof_already_set-in-Some-clause-cause
returns-in_ok-oneof_already_set-in-Some-clause-cause c =
    cause _ c.in_ok-oneof_already_set-in-Some.field-0
    (inr (c.in-Some.oneof, c.in-Some.ensures.set.0, c.in-Some.ensures.set.1))

pub returns-then-is_set-clause-told : goal.returns-then-is_set-clause-told
returns-then-is_set-clause-told c =
    let told = c.in_ok-already_set in
    cause _ told.field-0
    (set_told c.args.message.now c.args.target c.text_name.result.now told.field-0 c.args.span
    (sym c.is_set.ensures.set ∙ c.if-is_set.true) c.text_name.ensures told.ensures.told
    told.ensures.placed)

pub returns-in_ok-oneof_already_set-in-Some-clause-told :
    goal.returns-in_ok-oneof_already_set-in-Some-clause-told
returns-in_ok-oneof_already_set-in-Some-clause-told c =
    let told = c.in_ok-oneof_already_set-in-Some in
    cause _ told.field-0
    (rival_told c.args.message.now c.args.target c.in-Some.oneof told.field-0 c.args.span
    (sym c.is_set.ensures.set ∙ c.if-is_set.false) c.in-Some.ensures.set.0 c.in-Some.ensures.set.1
    told.ensures.told told.ensures.placed)
