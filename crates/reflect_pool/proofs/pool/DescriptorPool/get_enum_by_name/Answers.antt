-- The full name stands for the type that has it.
use Rattle.std.proofs.Common.{◌≡◌, None, Some, sym, subst, ◌∙◌, refl, rules}
use Rattle.reflect_tables.specs.Finding.{IsFirst}
use Rattle.reflect_tables.specs.Names.{enums, enum_name}
use Rattle.reflect_tables.specs.Views.{pool_of}
use Rattle.reflect_scope.specs.Known.{known_of}
use Rattle.reflect_pool.specs.Dots.{without_dot}
use Rattle.reflect_pool.specs.FindsNames.{FindsEnum}
use Rattle.reflect_scope.specs.declared.definition.DefinitionKind.TheVariants as kind
use Rattle.reflect_pool.proofs.FoundTypes.{enum_found}
use Rattle.reflect_pool.proofs.Lookups.{stands, stands_not, not_enums}
use Rattle.reflect_pool.proofs.pool.DescriptorPool.get_enum_by_name.Goals as goal

pub returns-in_err-index-clause-finds : goal.returns-in_err-index-clause-finds
returns-in_err-index-clause-finds c =
    let t = without_dot c.args.name.now in
    let nothing : c.kind_of.result ≡ None = search rules in
    let none = stands_not enums enum_name (pool_of c.self.inside.tables).enums (known_of c.self.inside.names) (c.self.invariant.named.found enums) t None refl (sym c.kind_of.ensures ∙ nothing) in
    let result : c.from_residual.result ≡ None = search rules in
    subst (λ r. FindsEnum c.args.self.now c.args.name.now r) (sym result) (subst (λ p. IsFirst (λ x. x.full_name ≡ t) p.enums None) c.self.view_is none)

pub returns-in-Enum-clause-finds : goal.returns-in-Enum-clause-finds
returns-in-Enum-clause-finds c =
    let t = without_dot c.args.name.now in
    let i = c.in-Enum.index in
    let is : c.kind_of.result ≡ Some (kind.Enum i) = search rules in
    let first = subst (λ p. IsFirst (λ x. x.full_name ≡ t) p.enums (Some i)) c.self.view_is
    (stands enums enum_name (pool_of c.self.inside.tables).enums (known_of c.self.inside.names) (c.self.invariant.named.found enums) t (kind.Enum i) i refl (sym c.kind_of.ensures ∙ is)) in
    enum_found c.args.self.now c.args.name.now i c.enum_at.result first (c.enum_at.ensures.there first.0) c.enum_at.ensures.index

pub returns-in_default : goal.returns-in_default
returns-in_default c =
    let t = without_dot c.args.name.now in
    let k = c.in_ok-index.field-0 in
    let is : c.kind_of.result ≡ Some k = search rules in
    let none = stands_not enums enum_name (pool_of c.self.inside.tables).enums (known_of c.self.inside.names) (c.self.invariant.named.found enums) t (Some k) (not_enums k c.in_default.not-Enum) (sym c.kind_of.ensures ∙ is) in
    record { pool = tt; finds = subst (λ p. IsFirst (λ x. x.full_name ≡ t) p.enums None) c.self.view_is none }
