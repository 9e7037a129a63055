use Rattle.std.proofs.Common.{rules, sym}
use Rattle.reflect_pool.specs.FieldsLeft.{field_type}
use Rattle.reflect_scalar.specs.FieldTypes.{field_pool}
use Rattle.reflect_scalar.specs.Floats.{HoldsFloats}
use Rattle.reflect_message.proofs.Known.{no_field_known, field_known, float_unknown}
use Rattle.reflect_message.proofs.declared.declared_field.Goals as goal

pub returns-then-holds_floats-clause-known : goal.returns-then-holds_floats-clause-known
returns-then-holds_floats-clause-known c =
    let f = c.in-Some.field in
    let floats : HoldsFloats (field_pool f) (field_type f) = search rules in
    sym (float_unknown c.args.descriptor c.args.number f c.in-Some.ensures.message c.in-Some.ensures.first floats)

pub returns-else-holds_floats-clause-known : goal.returns-else-holds_floats-clause-known
returns-else-holds_floats-clause-known c =
    let f = c.in-Some.field in
    let none : HoldsFloats (field_pool f) (field_type f) → ⊥ = search rules in
    sym (field_known c.args.descriptor c.args.number f c.in-Some.ensures.message c.in-Some.ensures.first none)

pub returns-in-None-clause-known : goal.returns-in-None-clause-known
returns-in-None-clause-known c = sym (no_field_known c.args.descriptor c.args.number c.in-None.ensures.first)
