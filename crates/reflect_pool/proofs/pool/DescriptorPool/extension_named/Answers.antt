-- The full name stands for the type that has it.
use Rattle.std.proofs.Common.{◌≡◌, None, Some, sym, subst, ◌∙◌, refl, rules}
use Rattle.reflect_pool.specs.Finds.{IsOnly}
use Rattle.reflect_tables.specs.Names.{extensions, extension_name}
use Rattle.reflect_tables.specs.Views.{pool_of}
use Rattle.reflect_scope.specs.Known.{known_of}
use Rattle.reflect_scope.specs.declared.definition.DefinitionKind.TheVariants as kind
use Rattle.reflect_pool.proofs.Lookups.{stands_only, stands_not, not_extensions}
use Rattle.reflect_pool.proofs.pool.DescriptorPool.extension_named.Goals as goal

pub returns-in_err-index : goal.returns-in_err-index
returns-in_err-index c =
    let t = c.args.name.now in
    let nothing : c.kind_named.result ≡ None = search rules in
    let none = stands_not extensions extension_name (pool_of c.self.inside.tables).extensions (known_of c.self.inside.names) (c.self.invariant.named.found extensions) t None refl (sym c.kind_named.ensures ∙ nothing) in
    let result : c.from_residual.result ≡ None = search rules in
    subst (λ r. IsOnly (λ x. x.field.full_name ≡ t) c.args.self.now.extensions r) (sym result) (subst (λ p. IsOnly (λ x. x.field.full_name ≡ t) p.extensions None) c.self.view_is none)

pub returns-in-Extension : goal.returns-in-Extension
returns-in-Extension c =
    let t = c.args.name.now in
    let i = c.in-Extension.index in
    let is : c.kind_named.result ≡ Some (kind.Extension i) = search rules in
    subst (λ p. IsOnly (λ x. x.field.full_name ≡ t) p.extensions (Some i)) c.self.view_is
    (stands_only extensions extension_name (pool_of c.self.inside.tables).extensions (known_of c.self.inside.names) (c.self.invariant.named.found extensions) t (kind.Extension i) i refl (sym c.kind_named.ensures ∙ is))

pub returns-in_default : goal.returns-in_default
returns-in_default c =
    let t = c.args.name.now in
    let k = c.in_ok-index.field-0 in
    let is : c.kind_named.result ≡ Some k = search rules in
    let none = stands_not extensions extension_name (pool_of c.self.inside.tables).extensions (known_of c.self.inside.names) (c.self.invariant.named.found extensions) t (Some k) (not_extensions k c.in_default.not-Extension) (sym c.kind_named.ensures ∙ is) in
    subst (λ p. IsOnly (λ x. x.field.full_name ≡ t) p.extensions None) c.self.view_is none
