use Rattle.std.proofs.Common.{inl, subst}
use Rattle.reflect_pool.specs.declared.message.MessageDescriptor.{MessageDescriptor}
use Rattle.reflect_numbered.specs.Called.{HasName, IsMeant}
use Rattle.reflect_numbered.proofs.Calling.{hands_back, if_ok}
use Rattle.reflect_access.proofs.by_name.DynamicMessageFieldsByName.try_set_field_by_name.Goals as goal

pub returns-in-Some-clause-ok : goal.returns-in-Some-clause-ok
returns-in-Some-clause-ok c =
    let f = c.in-Some.field in
    let meant = subst (λ (d : MessageDescriptor). IsMeant (HasName c.args.name.now) d f) c.descriptor.ensures c.in-Some.ensures.meant in
    if_ok c.try_set_field.result (λ sets. inl (f, meant, sets)) c.try_set_field.ensures.ok

pub returns-in-Some-clause-exclusive : goal.returns-in-Some-clause-exclusive
returns-in-Some-clause-exclusive c whole =
    let f = c.in-Some.field in
    let meant = subst (λ (d : MessageDescriptor). IsMeant (HasName c.args.name.now) d f) c.descriptor.ensures c.in-Some.ensures.meant in
    c.try_set_field.ensures.exclusive (whole f meant)

pub returns-in-Some-clause-refused : goal.returns-in-Some-clause-refused
returns-in-Some-clause-refused c =
    let d = c.args.self.now.descriptor in
    let f = c.in-Some.field in
    let meant = subst (λ (d : MessageDescriptor). IsMeant (HasName c.args.name.now) d f) c.descriptor.ensures c.in-Some.ensures.meant in
    hands_back (HasName c.args.name.now) d f c.args.value meant c.try_set_field.result c.try_set_field.ensures.refused
