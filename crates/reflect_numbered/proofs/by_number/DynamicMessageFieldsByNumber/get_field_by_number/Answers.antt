use Rattle.std.proofs.Common.{inl, ◌∙◌, subst}
use Rattle.reflect_pool.specs.declared.message.MessageDescriptor.{MessageDescriptor}
use Rattle.reflect_message.specs.Declares.{Owns}
use Rattle.reflect_numbered.specs.Called.{HasNothing, HasNumber}
use Rattle.reflect_numbered.proofs.Calling.{if_err, meant_by_number}
use Rattle.reflect_numbered.proofs.by_number.DynamicMessageFieldsByNumber.get_field_by_number.Goals as goal

pub returns-in_ok-get_field-in-Some-clause-lends : goal.returns-in_ok-get_field-in-Some-clause-lends
returns-in_ok-get_field-in-Some-clause-lends c =
    let f = c.in-Some.field in
    let owns = subst (λ (d : MessageDescriptor). Owns d f) c.descriptor.ensures c.in-Some.ensures.owns in
    let meant = meant_by_number c.args.self.now.descriptor c.args.number f (c.in-Some.ensures.message ∙ c.descriptor.ensures) c.in-Some.ensures.number owns in
    inl (f, meant, c.in_ok-get_field-in-Some.ensures.shows)

pub returns-in_err-get_field-in-Some-clause-unset : goal.returns-in_err-get_field-in-Some-clause-unset
returns-in_err-get_field-in-Some-clause-unset c =
    let f = c.in-Some.field in
    let owns = subst (λ (d : MessageDescriptor). Owns d f) c.descriptor.ensures c.in-Some.ensures.owns in
    let meant = meant_by_number c.args.self.now.descriptor c.args.number f (c.in-Some.ensures.message ∙ c.descriptor.ensures) c.in-Some.ensures.number owns in
    let nothing : HasNothing (HasNumber c.args.number) c.args.self.now = (f, meant, c.in_err-get_field-in-Some.ensures.unset) in
    if_err c.from_residual.result nothing
