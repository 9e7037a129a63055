use Rattle.std.proofs.Common.{rules, ◌≡◌, Some, None, option_map}
use Rattle.reflect_scalar.specs.Singles.{scalar_view}
use Rattle.reflect_scalar.proofs.Defaulted.{default_lent, default_left}
use Rattle.reflect_scalar.proofs.scalar.default_scalar.Goals as goal

pub returns-in-Some : goal.returns-in-Some
returns-in-Some g c =
    let pool = g.F.FieldDescriptorLike.pool c.args.field.now in
    let f = g.F.FieldDescriptorLike.says c.args.field.now in
    let h = c.declared_scalar.ensures in
    let lent : option_map scalar_view c.declared_scalar.result ≡ Some (scalar_view c.in-Some.scalar) = search rules in
    default_lent pool f c.kind-kind.result h.0 (option_map scalar_view c.declared_scalar.result) c.kind-kind.ensures h.1 h.2 (scalar_view c.in-Some.scalar) lent

pub returns-in-None : goal.returns-in-None
returns-in-None g c =
    let pool = g.F.FieldDescriptorLike.pool c.args.field.now in
    let f = g.F.FieldDescriptorLike.says c.args.field.now in
    let h = c.declared_scalar.ensures in
    let lent : option_map scalar_view c.declared_scalar.result ≡ None = search rules in
    default_left pool f c.kind-kind.result h.0 (option_map scalar_view c.declared_scalar.result) c.kind-kind.ensures h.1 h.2 (option_map scalar_view c.default_value.result) lent c.default_value.ensures
