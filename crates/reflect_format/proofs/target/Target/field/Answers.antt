use Rattle.std.proofs.Common.{rules, inr}
use Rattle.reflect_pool.specs.FieldsLeft.{field_type}
use Rattle.reflect_scalar.specs.FieldTypes.{field_pool}
use Rattle.reflect_scalar.specs.Floats.{HoldsFloats}
use Rattle.reflect_format.proofs.Filling.{cause}
use Rattle.reflect_format.proofs.Telling.{float_field_told}
use Rattle.reflect_format.proofs.target.Target.field.Goals as goal

pub returns-then-holds_floats-clause-refused : goal.returns-then-holds_floats-clause-refused
returns-then-holds_floats-clause-refused c =
    let found = c.in-Some in
    let holds : HoldsFloats (field_pool found.field) (field_type found.field) = search rules in
    float_field_told c.args.descriptor c.args.name.now _ c.in_ok-float_field.ensures.told (found.field, found.ensures.found, holds)

pub returns-then-holds_floats-clause-unnamed : goal.returns-then-holds_floats-clause-unnamed
returns-then-holds_floats-clause-unnamed c =
    let found = c.in-Some in
    let holds : HoldsFloats (field_pool found.field) (field_type found.field) = search rules in
    cause _ c.in_ok-float_field.field-0 (inr (found.field, found.ensures.found, holds))

pub returns-then-holds_floats-clause-placed : goal.returns-then-holds_floats-clause-placed
returns-then-holds_floats-clause-placed c =
    cause _ c.in_ok-float_field.field-0 c.in_ok-float_field.ensures.placed
