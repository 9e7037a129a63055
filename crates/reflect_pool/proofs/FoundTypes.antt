-- The descriptor at a place that a full name stands for.
use Rattle.std.specs.Prelude.{◌≡◌, ℕ, List, Option, None, Some, IsSome, IfSome}
use Rattle.std.proofs.Common.{sym, subst}
use Rattle.reflect_tables.specs.Finding.{IsFirst}
use Rattle.reflect_tables.specs.Types.{PoolType}
use Rattle.reflect_pool.specs.Dots.{without_dot}
use Rattle.reflect_pool.specs.FindsNames.{FindsMessage, FindsEnum, FindsExtension}
use Rattle.reflect_pool.specs.declared.message.MessageDescriptor.{MessageDescriptor}
use Rattle.reflect_pool.specs.declared.enums.EnumDescriptor.{EnumDescriptor}
use Rattle.reflect_pool.specs.declared.extension.ExtensionDescriptor.{ExtensionDescriptor}

module _ (p : PoolType) (name : List ℕ) (i : ℕ) where
  pub message_found : (r : Option MessageDescriptor) → IsFirst (λ x. x.full_name ≡ without_dot name) p.messages (Some i) → IsSome r → IfSome r (λ d. d.index ≡ i) → FindsMessage p name r
  message_found None first some at = absurd (cc)
  message_found (Some d) first some at = subst (λ k. IsFirst (λ x. x.full_name ≡ without_dot name) p.messages (Some k)) (sym at) first

  pub enum_found : (r : Option EnumDescriptor) → IsFirst (λ x. x.full_name ≡ without_dot name) p.enums (Some i) → IsSome r → IfSome r (λ d. d.index ≡ i) → FindsEnum p name r
  enum_found None first some at = absurd (cc)
  enum_found (Some d) first some at = subst (λ k. IsFirst (λ x. x.full_name ≡ without_dot name) p.enums (Some k)) (sym at) first

  pub extension_found : (r : Option ExtensionDescriptor) → IsFirst (λ x. x.field.full_name ≡ without_dot name) p.extensions (Some i) → IsSome r → IfSome r (λ d. d.index ≡ i) → FindsExtension p name r
  extension_found None first some at = absurd (cc)
  extension_found (Some d) first some at = subst (λ k. IsFirst (λ x. x.field.full_name ≡ without_dot name) p.extensions (Some k)) (sym at) first
