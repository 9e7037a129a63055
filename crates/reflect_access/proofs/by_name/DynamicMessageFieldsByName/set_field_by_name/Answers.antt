use Rattle.std.proofs.Common.{inl, subst}
use Rattle.reflect_pool.specs.declared.message.MessageDescriptor.{MessageDescriptor}
use Rattle.reflect_numbered.specs.Called.{HasName, IsMeant}
use Rattle.reflect_numbered.proofs.Calling.{if_err, if_ok}
use Rattle.reflect_access.proofs.by_name.DynamicMessageFieldsByName.set_field_by_name.Goals as goal

pub returns-in-Some-clause-ok : goal.returns-in-Some-clause-ok
returns-in-Some-clause-ok c =
    let f = c.in-Some.field in
    let meant = subst (λ (d : MessageDescriptor). IsMeant (HasName c.args.name.now) d f) c.descriptor.ensures c.in-Some.ensures.meant in
    if_ok c.set_field.result (λ sets. inl (f, meant, sets)) c.set_field.ensures.ok

pub returns-in-Some-clause-exclusive : goal.returns-in-Some-clause-exclusive
returns-in-Some-clause-exclusive c whole =
    let f = c.in-Some.field in
    let meant = subst (λ (d : MessageDescriptor). IsMeant (HasName c.args.name.now) d f) c.descriptor.ensures c.in-Some.ensures.meant in
    c.set_field.ensures.exclusive (whole f meant)

pub returns-in-Some-clause-meant : goal.returns-in-Some-clause-meant
returns-in-Some-clause-meant c =
    let f = c.in-Some.field in
    if_err c.set_field.result (f, subst (λ (d : MessageDescriptor). IsMeant (HasName c.args.name.now) d f) c.descriptor.ensures c.in-Some.ensures.meant)
