use Rattle.std.proofs.Common.{rules, sym}
use Rattle.reflect_scalar.specs.FieldTypes.{extension_pool, extension_type}
use Rattle.reflect_scalar.specs.Floats.{HoldsFloats}
use Rattle.reflect_message.proofs.Known.{no_extension_known, extension_known, float_extension}
use Rattle.reflect_message.proofs.declared.declared_extension.Goals as goal

pub returns-then-holds_floats-clause-known : goal.returns-then-holds_floats-clause-known
returns-then-holds_floats-clause-known c =
    let x = c.in-Some.extension in
    let floats : HoldsFloats (extension_pool x) (extension_type x) = search rules in
    sym (float_extension c.args.descriptor c.args.number x c.in-Some.ensures.extendee.0 c.in-Some.ensures.finds floats)

pub returns-else-holds_floats-clause-known : goal.returns-else-holds_floats-clause-known
returns-else-holds_floats-clause-known c =
    let x = c.in-Some.extension in
    let none : HoldsFloats (extension_pool x) (extension_type x) → ⊥ = search rules in
    sym (extension_known c.args.descriptor c.args.number x c.in-Some.ensures.extendee.0 c.in-Some.ensures.finds none)

pub returns-in-None-clause-known : goal.returns-in-None-clause-known
returns-in-None-clause-known c = sym (no_extension_known c.args.descriptor c.args.number c.in-None.ensures.finds)
