use Rattle.std.proofs.Common.{◌≡◌, ◌∷◌, [], subst, rules}
use Rattle.descriptor_records.specs.declared.tag.field.TheConstants as fields
use Rattle.protox_locate.specs.Collected.{meet, state}
use Rattle.protox_locate.specs.Located.{part}
use Rattle.protox_locate.proofs.fields.written_type.Goals as goal

pub returns-in_ok-add-in-Named : goal.returns-in_ok-add-in-Named
returns-in_ok-add-in-Named c =
    rw c.in-Named.is (
    subst (λ s. state c.add-in-Named.new.self ≡ meet (state c.args.locator.now) (part c.args.path.now (fields.TYPE_NAME ∷ []) s)) c.span.ensures (search rules)
    )

pub returns-in_ok-add-in-Scalar : goal.returns-in_ok-add-in-Scalar
returns-in_ok-add-in-Scalar c = rw c.in-Scalar.is c.in_ok-add-in-Scalar.ensures
