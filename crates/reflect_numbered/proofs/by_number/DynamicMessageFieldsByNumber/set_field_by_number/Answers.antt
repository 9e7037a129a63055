use Rattle.std.proofs.Common.{inl, ◌∙◌, subst}
use Rattle.reflect_pool.specs.declared.message.MessageDescriptor.{MessageDescriptor}
use Rattle.reflect_message.specs.Declares.{Owns}
use Rattle.reflect_numbered.proofs.Calling.{meant_by_number, if_err, if_ok}
use Rattle.reflect_numbered.proofs.by_number.DynamicMessageFieldsByNumber.set_field_by_number.Goals as goal

pub returns-in-Some-clause-ok : goal.returns-in-Some-clause-ok
returns-in-Some-clause-ok c =
    let f = c.in-Some.field in
    let owns = subst (λ (d : MessageDescriptor). Owns d f) c.descriptor.ensures c.in-Some.ensures.owns in
    let meant = meant_by_number c.args.self.now.descriptor c.args.number f (c.in-Some.ensures.message ∙ c.descriptor.ensures) c.in-Some.ensures.number owns in
    if_ok c.set_field.result (λ sets. inl (f, meant, sets)) c.set_field.ensures.ok

pub returns-in-Some-clause-exclusive : goal.returns-in-Some-clause-exclusive
returns-in-Some-clause-exclusive c =
    c.set_field.ensures.exclusive (subst (λ (d : MessageDescriptor). Owns d c.in-Some.field) c.descriptor.ensures c.in-Some.ensures.owns)

pub returns-in-Some-clause-meant : goal.returns-in-Some-clause-meant
returns-in-Some-clause-meant c =
    let f = c.in-Some.field in
    let owns = subst (λ (d : MessageDescriptor). Owns d f) c.descriptor.ensures c.in-Some.ensures.owns in
    if_err c.set_field.result (f, meant_by_number c.args.self.now.descriptor c.args.number f (c.in-Some.ensures.message ∙ c.descriptor.ensures) c.in-Some.ensures.number owns)
