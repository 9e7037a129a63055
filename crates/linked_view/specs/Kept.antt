-- What each pool has by its type alone.
use Rattle.std.specs.Prelude.{◌≡◌, ◌<◌, ℕ, length}
use Rattle.message_view.specs.Sound.{HaveNames, HaveNumbers}
use Rattle.reflect_tables.specs.Types.{PoolType, ArePooled, extension_at}

-- no two extensions of one message have one number
abbrev pub ExtensionsAreApart : PoolType → Type 0
ExtensionsAreApart pool =
    (j k : ℕ) → j < length pool.extensions → k < length pool.extensions
    → (extension_at pool j).extendee ≡ (extension_at pool k).extendee
    → (extension_at pool j).field.number ≡ (extension_at pool k).field.number → j ≡ k

-- what entries name is there, no two messages have one name, nor two extensions of one message one
-- number, and the numbers of enum values are numbers of 32 bits
pub record IsKept (pool : PoolType) : Type 0 where
  pub pooled : ArePooled pool
  pub names : HaveNames pool
  pub numbers : HaveNumbers pool
  pub extensions : ExtensionsAreApart pool
