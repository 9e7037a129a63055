use Rattle.std.proofs.Common.{inl, ◌∙◌, subst}
use Rattle.reflect_pool.specs.declared.message.MessageDescriptor.{MessageDescriptor}
use Rattle.reflect_message.specs.Declares.{Owns}
use Rattle.reflect_numbered.specs.Called.{HasNumber}
use Rattle.reflect_numbered.proofs.Calling.{hands_back, if_ok, meant_by_number}
use Rattle.reflect_numbered.proofs.by_number.DynamicMessageFieldsByNumber.try_set_field_by_number.Goals as goal

pub returns-in-Some-clause-ok : goal.returns-in-Some-clause-ok
returns-in-Some-clause-ok c =
    let f = c.in-Some.field in
    let owns = subst (λ (d : MessageDescriptor). Owns d f) c.descriptor.ensures c.in-Some.ensures.owns in
    let meant = meant_by_number c.args.self.now.descriptor c.args.number f (c.in-Some.ensures.message ∙ c.descriptor.ensures) c.in-Some.ensures.number owns in
    if_ok c.try_set_field.result (λ sets. inl (f, meant, sets)) c.try_set_field.ensures.ok

pub returns-in-Some-clause-exclusive : goal.returns-in-Some-clause-exclusive
returns-in-Some-clause-exclusive c =
    c.try_set_field.ensures.exclusive (subst (λ (d : MessageDescriptor). Owns d c.in-Some.field) c.descriptor.ensures c.in-Some.ensures.owns)

pub returns-in-Some-clause-refused : goal.returns-in-Some-clause-refused
returns-in-Some-clause-refused c =
    let d = c.args.self.now.descriptor in
    let f = c.in-Some.field in
    let owns = subst (λ (d : MessageDescriptor). Owns d f) c.descriptor.ensures c.in-Some.ensures.owns in
    let meant = meant_by_number d c.args.number f (c.in-Some.ensures.message ∙ c.descriptor.ensures) c.in-Some.ensures.number owns in
    hands_back (HasNumber c.args.number) d f c.args.value meant c.try_set_field.result c.try_set_field.ensures.refused
