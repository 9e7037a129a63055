use Rattle.std.proofs.Common.{inl, ◌∙◌, subst}
use Rattle.reflect_pool.specs.declared.message.MessageDescriptor.{MessageDescriptor}
use Rattle.reflect_message.specs.Declares.{Owns}
use Rattle.reflect_numbered.proofs.Calling.{meant_by_number}
use Rattle.reflect_numbered.proofs.by_number.DynamicMessageFieldsByNumber.has_field_by_number.Goals as goal

pub returns-in-Some-clause-tells : goal.returns-in-Some-clause-tells
returns-in-Some-clause-tells c =
    let f = c.in-Some.field in
    let owns = subst (λ (d : MessageDescriptor). Owns d f) c.descriptor.ensures c.in-Some.ensures.owns in
    let meant = meant_by_number c.args.self.now.descriptor c.args.number f (c.in-Some.ensures.message ∙ c.descriptor.ensures) c.in-Some.ensures.number owns in
    inl (f, meant, c.has_field.ensures.set)
