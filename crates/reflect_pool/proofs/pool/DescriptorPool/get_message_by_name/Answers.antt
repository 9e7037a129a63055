-- The full name stands for the type that has it.
use Rattle.std.proofs.Common.{◌≡◌, None, Some, sym, subst, ◌∙◌, refl, rules}
use Rattle.reflect_tables.specs.Finding.{IsFirst}
use Rattle.reflect_tables.specs.Names.{messages, message_name}
use Rattle.reflect_tables.specs.Views.{pool_of}
use Rattle.reflect_scope.specs.Known.{known_of}
use Rattle.reflect_pool.specs.Dots.{without_dot}
use Rattle.reflect_pool.specs.FindsNames.{FindsMessage}
use Rattle.reflect_scope.specs.declared.definition.DefinitionKind.TheVariants as kind
use Rattle.reflect_pool.proofs.FoundTypes.{message_found}
use Rattle.reflect_pool.proofs.Lookups.{stands, stands_not, not_messages}
use Rattle.reflect_pool.proofs.pool.DescriptorPool.get_message_by_name.Goals as goal

pub returns-in_err-index-clause-finds : goal.returns-in_err-index-clause-finds
returns-in_err-index-clause-finds c =
    let t = without_dot c.args.name.now in
    let nothing : c.kind_of.result ≡ None = search rules in
    let none = stands_not messages message_name (pool_of c.self.inside.tables).messages (known_of c.self.inside.names) (c.self.invariant.named.found messages) t None refl (sym c.kind_of.ensures ∙ nothing) in
    let result : c.from_residual.result ≡ None = search rules in
    subst (λ r. FindsMessage c.args.self.now c.args.name.now r) (sym result) (subst (λ p. IsFirst (λ x. x.full_name ≡ t) p.messages None) c.self.view_is none)

pub returns-in-Message-clause-finds : goal.returns-in-Message-clause-finds
returns-in-Message-clause-finds c =
    let t = without_dot c.args.name.now in
    let i = c.in-Message.index in
    let is : c.kind_of.result ≡ Some (kind.Message i) = search rules in
    let first = subst (λ p. IsFirst (λ x. x.full_name ≡ t) p.messages (Some i)) c.self.view_is
    (stands messages message_name (pool_of c.self.inside.tables).messages (known_of c.self.inside.names) (c.self.invariant.named.found messages) t (kind.Message i) i refl (sym c.kind_of.ensures ∙ is)) in
    message_found c.args.self.now c.args.name.now i c.message_at.result first (c.message_at.ensures.there first.0) c.message_at.ensures.index

pub returns-in_default : goal.returns-in_default
returns-in_default c =
    let t = without_dot c.args.name.now in
    let k = c.in_ok-index.field-0 in
    let is : c.kind_of.result ≡ Some k = search rules in
    let none = stands_not messages message_name (pool_of c.self.inside.tables).messages (known_of c.self.inside.names) (c.self.invariant.named.found messages) t (Some k) (not_messages k c.in_default.not-Message) (sym c.kind_of.ensures ∙ is) in
    record { pool = tt; finds = subst (λ p. IsFirst (λ x. x.full_name ≡ t) p.messages None) c.self.view_is none }
