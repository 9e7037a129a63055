use Rattle.std.proofs.Common.{inl, subst}
use Rattle.reflect_pool.specs.declared.message.MessageDescriptor.{MessageDescriptor}
use Rattle.reflect_numbered.specs.Called.{HasName, HasNothing, IsMeant}
use Rattle.reflect_numbered.proofs.Calling.{if_err}
use Rattle.reflect_access.proofs.by_name.DynamicMessageFieldsByName.get_field_by_name.Goals as goal

pub returns-in_ok-get_field-in-Some-clause-lends : goal.returns-in_ok-get_field-in-Some-clause-lends
returns-in_ok-get_field-in-Some-clause-lends c =
    let f = c.in-Some.field in
    let meant = subst (λ (d : MessageDescriptor). IsMeant (HasName c.args.name.now) d f) c.descriptor.ensures c.in-Some.ensures.meant in
    inl (f, meant, c.in_ok-get_field-in-Some.ensures.shows)

pub returns-in_err-get_field-in-Some-clause-unset : goal.returns-in_err-get_field-in-Some-clause-unset
returns-in_err-get_field-in-Some-clause-unset c =
    let f = c.in-Some.field in
    let meant = subst (λ (d : MessageDescriptor). IsMeant (HasName c.args.name.now) d f) c.descriptor.ensures c.in-Some.ensures.meant in
    let nothing : HasNothing (HasName c.args.name.now) c.args.self.now = (f, meant, c.in_err-get_field-in-Some.ensures.unset) in
    if_err c.from_residual.result nothing
