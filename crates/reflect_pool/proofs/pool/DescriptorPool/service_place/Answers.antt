-- The full name stands for the type that has it.
use Rattle.std.proofs.Common.{◌≡◌, None, Some, sym, subst, ◌∙◌, refl, rules}
use Rattle.reflect_tables.specs.Finding.{IsFirst}
use Rattle.reflect_tables.specs.Names.{services, service_name}
use Rattle.reflect_tables.specs.Views.{pool_of}
use Rattle.reflect_scope.specs.Known.{known_of}
use Rattle.reflect_pool.specs.Dots.{without_dot}
use Rattle.reflect_scope.specs.declared.definition.DefinitionKind.TheVariants as kind
use Rattle.reflect_pool.proofs.Lookups.{stands, stands_not, not_services}
use Rattle.reflect_pool.proofs.pool.DescriptorPool.service_place.Goals as goal

pub returns-in_err-index : goal.returns-in_err-index
returns-in_err-index c =
    let t = without_dot c.args.name.now in
    let nothing : c.kind_of.result ≡ None = search rules in
    let none = stands_not services service_name (pool_of c.self.inside.tables).services (known_of c.self.inside.names) (c.self.invariant.named.found services) t None refl (sym c.kind_of.ensures ∙ nothing) in
    let result : c.from_residual.result ≡ None = search rules in
    subst (λ r. IsFirst (λ x. x.full_name ≡ t) c.args.self.now.services r) (sym result) (subst (λ p. IsFirst (λ x. x.full_name ≡ t) p.services None) c.self.view_is none)

pub returns-in-Service : goal.returns-in-Service
returns-in-Service c =
    let t = without_dot c.args.name.now in
    let i = c.in-Service.index in
    let is : c.kind_of.result ≡ Some (kind.Service i) = search rules in
    subst (λ p. IsFirst (λ x. x.full_name ≡ t) p.services (Some i)) c.self.view_is
    (stands services service_name (pool_of c.self.inside.tables).services (known_of c.self.inside.names) (c.self.invariant.named.found services) t (kind.Service i) i refl (sym c.kind_of.ensures ∙ is))

pub returns-in_default : goal.returns-in_default
returns-in_default c =
    let t = without_dot c.args.name.now in
    let k = c.in_ok-index.field-0 in
    let is : c.kind_of.result ≡ Some k = search rules in
    let none = stands_not services service_name (pool_of c.self.inside.tables).services (known_of c.self.inside.names) (c.self.invariant.named.found services) t (Some k) (not_services k c.in_default.not-Service) (sym c.kind_of.ensures ∙ is) in
    subst (λ p. IsFirst (λ x. x.full_name ≡ t) p.services None) c.self.view_is none
