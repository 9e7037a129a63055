-- The full name stands for the type that has it.
use Rattle.std.proofs.Common.{◌≡◌, None, Some, sym, subst, ◌∙◌, refl, rules}
use Rattle.reflect_tables.specs.Finding.{IsFirst}
use Rattle.reflect_tables.specs.Names.{extensions, extension_name}
use Rattle.reflect_tables.specs.Views.{pool_of}
use Rattle.reflect_scope.specs.Known.{known_of}
use Rattle.reflect_pool.specs.Dots.{without_dot}
use Rattle.reflect_pool.specs.FindsNames.{FindsExtension}
use Rattle.reflect_scope.specs.declared.definition.DefinitionKind.TheVariants as kind
use Rattle.reflect_pool.proofs.FoundTypes.{extension_found}
use Rattle.reflect_pool.proofs.Lookups.{stands, stands_not, not_extensions}
use Rattle.reflect_pool.proofs.pool.DescriptorPool.get_extension_by_name.Goals as goal

pub returns-in_err-index-clause-finds : goal.returns-in_err-index-clause-finds
returns-in_err-index-clause-finds c =
    let t = without_dot c.args.name.now in
    let nothing : c.kind_of.result ≡ None = search rules in
    let none = stands_not extensions extension_name (pool_of c.self.inside.tables).extensions (known_of c.self.inside.names) (c.self.invariant.named.found extensions) t None refl (sym c.kind_of.ensures ∙ nothing) in
    let result : c.from_residual.result ≡ None = search rules in
    subst (λ r. FindsExtension c.args.self.now c.args.name.now r) (sym result) (subst (λ p. IsFirst (λ x. x.field.full_name ≡ t) p.extensions None) c.self.view_is none)

pub returns-in-Extension-clause-finds : goal.returns-in-Extension-clause-finds
returns-in-Extension-clause-finds c =
    let t = without_dot c.args.name.now in
    let i = c.in-Extension.index in
    let is : c.kind_of.result ≡ Some (kind.Extension i) = search rules in
    let first = subst (λ p. IsFirst (λ x. x.field.full_name ≡ t) p.extensions (Some i)) c.self.view_is
    (stands extensions extension_name (pool_of c.self.inside.tables).extensions (known_of c.self.inside.names) (c.self.invariant.named.found extensions) t (kind.Extension i) i refl (sym c.kind_of.ensures ∙ is)) in
    extension_found c.args.self.now c.args.name.now i c.extension_at.result first (c.extension_at.ensures.there first.0) c.extension_at.ensures.index

pub returns-in_default : goal.returns-in_default
returns-in_default c =
    let t = without_dot c.args.name.now in
    let k = c.in_ok-index.field-0 in
    let is : c.kind_of.result ≡ Some k = search rules in
    let none = stands_not extensions extension_name (pool_of c.self.inside.tables).extensions (known_of c.self.inside.names) (c.self.invariant.named.found extensions) t (Some k) (not_extensions k c.in_default.not-Extension) (sym c.kind_of.ensures ∙ is) in
    record { pool = tt; finds = subst (λ p. IsFirst (λ x. x.field.full_name ≡ t) p.extensions None) c.self.view_is none }
