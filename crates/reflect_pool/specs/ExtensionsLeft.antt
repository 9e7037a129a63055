-- What the iterator over a message's extensions has left: each by its pool and its place there.
use Rattle.std.specs.Prelude.{◌≡◌, ℕ, List, All, Contains, map}
use Rattle.std.specs.List.Sorted.{IsStrictlySortedBy}
use Rattle.std.specs.Ordering.{nat_cmp}
use Rattle.reflect_tables.specs.Types.{PoolType, ExtensionType, extension_at}
use Rattle.reflect_pool.specs.declared.extension.ExtensionDescriptor.{ExtensionDescriptor}
use Rattle.reflect_pool.specs.declared.extension.MessageExtensions.{MessageExtensions}

abbrev pub extension_place : ExtensionDescriptor → PoolType × ℕ
extension_place x = (x.pool.now, x.index)

-- the extension at a place
abbrev pub extension_in : PoolType × ℕ → ExtensionType
extension_in p = extension_at p.0 p.1

abbrev pub extensions_left : MessageExtensions → List (PoolType × ℕ)
extensions_left s = map (λ e. (s.pool.now, e.1)) s.found

-- exactly the extensions of the message, by ascending number
pub record AreExtensions (p : PoolType) (m : ℕ) (xs : List ExtensionType) : Type 0 where
  pub ascend : IsStrictlySortedBy nat_cmp (map (λ x. x.field.number) xs)
  pub extend : All (λ x. Contains p.extensions x × (x.extendee ≡ m)) xs
  pub complete : All (λ x. x.extendee ≡ m → Contains xs x) p.extensions
