use Rattle.std.proofs.Common.{rules, ◌≡◌, Some, inr, sym, subst, ap, ◌∙◌, string_bytes}
use Rattle.reflect_pool.specs.Finds.{FindsAny}
use Rattle.reflect_tables.specs.Types.{extension_at}
use Rattle.reflect_scalar.specs.FieldTypes.{extension_pool, extension_type}
use Rattle.reflect_scalar.specs.Floats.{HoldsFloats}
use Rattle.reflect_format.specs.Refusals.{TellsFloatField}
use Rattle.reflect_format.proofs.Filling.{cause}
use Rattle.reflect_format.proofs.Telling.{float_extension_told}
use Rattle.reflect_format.proofs.target.Target.extension.Goals as goal

pub returns-then-holds_floats-clause-refused : goal.returns-then-holds_floats-clause-refused
returns-then-holds_floats-clause-refused c =
    let found = c.in-Some in
    let type = found.ensures.extendee in
    let holds : HoldsFloats (extension_pool found.extension) (extension_type found.extension) = search rules in
    float_extension_told c.args.descriptor (string_bytes c.args.name) c.json_name.result.now _ c.in_ok-float_field.ensures.told
    (found.extension, (type.0, ap (λ p. (extension_at p found.extension.index).extendee) type.0 ∙ type.1), sym c.json_name.ensures, holds)

pub returns-then-holds_floats-clause-unnamed : goal.returns-then-holds_floats-clause-unnamed
returns-then-holds_floats-clause-unnamed c =
    let found = c.in-Some in
    let type = found.ensures.extendee in
    let holds : HoldsFloats (extension_pool found.extension) (extension_type found.extension) = search rules in
    let finds : FindsAny (λ y. (y.extendee ≡ c.args.descriptor.index) × (y.field.full_name ≡ string_bytes c.args.name)) c.args.descriptor.pool.now (Some found.extension) = search rules in
    cause _ c.in_ok-float_field.field-0
    (inr (found.extension, ((type.0, ap (λ p. (extension_at p found.extension.index).extendee) type.0 ∙ type.1), finds), holds))

pub returns-then-holds_floats-clause-placed : goal.returns-then-holds_floats-clause-placed
returns-then-holds_floats-clause-placed c =
    cause _ c.in_ok-float_field.field-0 c.in_ok-float_field.ensures.placed

pub returns-then-holds_floats-clause-told : goal.returns-then-holds_floats-clause-told
returns-then-holds_floats-clause-told c =
    let found = c.in-Some in
    let type = found.ensures.extendee in
    let holds : HoldsFloats (extension_pool found.extension) (extension_type found.extension) = search rules in
    let finds : FindsAny (λ y. (y.extendee ≡ c.args.descriptor.index) × (y.field.full_name ≡ string_bytes c.args.name)) c.args.descriptor.pool.now (Some found.extension) = search rules in
    cause _ c.in_ok-float_field.field-0
    (inr (found.extension, ((type.0, ap (λ p. (extension_at p found.extension.index).extendee) type.0 ∙ type.1), finds), holds, subst (λ w. TellsFloatField c.args.descriptor w c.in_ok-float_field.field-0) c.json_name.ensures c.in_ok-float_field.ensures.told))
